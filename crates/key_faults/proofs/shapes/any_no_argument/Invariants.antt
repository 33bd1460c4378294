use Rattle.std.proofs.Common.{◌≡◌, true, length, drop}
use Rattle.std.specs.List.{list_any}
use Rattle.type_pool.specs.Trees.{at_all, ids_below}
use Rattle.key_faults.specs.Shapes as spec
use Rattle.key_faults.proofs.shapes.any_no_argument.Given as goal

abbrev pub invariant-loop-id : goal.invariant-loop-id
invariant-loop-id l = record {
  within : ids_below (length l.pool) (drop l.id-index l.ids) ≡ true;
  left : list_any spec.is_no_argument (at_all l.pool (drop l.id-index l.ids)) ≡ list_any spec.is_no_argument (at_all l.pool l.ids);
}
