use Rattle.std.proofs.Common.{◌≡◌, true, length, drop}
use Rattle.std.specs.List.{list_all}
use Rattle.type_pool.specs.Trees.{at_all, ids_below}
use Rattle.interface_lists.specs.Lists as spec
use Rattle.interface_lists.proofs.lists.all_small.Given as goal

abbrev pub invariant-loop-id : goal.invariant-loop-id
invariant-loop-id l = record {
  within : ids_below (length l.pool) (drop l.id-index l.ids) ≡ true;
  left : list_all spec.is_small (at_all l.pool (drop l.id-index l.ids)) ≡ list_all spec.is_small (at_all l.pool l.ids);
}
