use Rattle.std.proofs.Common.{◌≡◌, ◌+◌, ◌*◌, ◌++◌, true, drop}
use Rattle.type_pool.specs.Trees.{at_all, ids_below}
use Rattle.type_pool.proofs.trees.+to_tree.Given as goal

abbrev pub decreases-to_tree : goal.decreases-to_tree
decreases-to_tree l = 2 * l.id.0 + 1

abbrev pub decreases-to_trees : goal.decreases-to_trees
decreases-to_trees l = 2 * l.above

abbrev pub invariant-to_trees-loop-id : goal.invariant-to_trees-loop-id
invariant-to_trees-loop-id l = record {
  below : ids_below l.fn.above (drop l.id-index l.ids) ≡ true;
  are : l.done ++ at_all l.pool (drop l.id-index l.ids) ≡ at_all l.pool l.ids;
}
