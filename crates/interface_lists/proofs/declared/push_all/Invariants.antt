use Rattle.std.proofs.Common.{◌≡◌, ◌≤◌, true, [], ◌++◌, length, drop}
use Rattle.type_tree.specs.Subst.{subst_all}
use Rattle.type_pool.specs.Trees.{at_all, ids_below, Grows}
use Rattle.interface_lists.specs.Walks.{stack}
use Rattle.interface_lists.proofs.declared.push_all.Given as goal

abbrev pub invariant-loop-left : goal.invariant-loop-left
invariant-loop-left l = record {
  grows : Grows l.fn.pool l.pool;
  few : l.left ≤ length l.trees;
  within : ids_below (length l.pool) l.todo ≡ true;
  are : stack l.pool l.todo ≡ subst_all (at_all l.fn.pool l.args) [] (drop l.left l.trees) ++ stack l.fn.pool l.fn.todo;
}

abbrev pub decreases-loop-left : goal.decreases-loop-left
decreases-loop-left l = l.left
