use Rattle.std.proofs.Common.{◌≡◌, true, length, map, drop}
use Rattle.type_pool.specs.Trees.{at_all, ids_below}
use Rattle.interface_lists.specs.Lists as spec
use Rattle.interface_lists.specs.Walks.{id_of, members}
use Rattle.interface_lists.proofs.lists.add_all.Given as goal

abbrev pub invariant-loop-id : goal.invariant-loop-id
invariant-loop-id l = record {
  listed : ids_below (length l.pool) (map id_of l.list.keys) ≡ true;
  within : ids_below (length l.pool) (drop l.id-index l.ids) ≡ true;
  left : spec.joined (members l.pool l.list.keys) (at_all l.pool (drop l.id-index l.ids)) ≡ spec.joined (members l.pool l.fn.list.keys) (at_all l.pool l.ids);
}
