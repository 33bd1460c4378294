use Rattle.std.proofs.Common.{◌≡◌, true, length, drop}
use Rattle.std.specs.List.{list_any}
use Rattle.type_pool.specs.Trees.{at, at_all, ids_below}
use Rattle.method_slots.specs.Slots.{same_tree}
use Rattle.slot_chains.proofs.rows.has_tree.Given as goal

abbrev pub invariant-loop-other : goal.invariant-loop-other
invariant-loop-other l = record {
  within : ids_below (length l.pool) (drop l.other-index l.ids) ≡ true;
  left : list_any (same_tree (at l.pool l.id)) (at_all l.pool (drop l.other-index l.ids)) ≡ list_any (same_tree (at l.pool l.id)) (at_all l.pool l.ids);
}
