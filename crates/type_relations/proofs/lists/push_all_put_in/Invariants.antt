use Rattle.std.proofs.Common.{◌≡◌, ◌++◌, true, length, drop}
use Rattle.type_pool.specs.Trees.{at_all, ids_below, Grows}
use Rattle.type_relations.specs.Relations.{put_in}
use Rattle.type_relations.proofs.lists.push_all_put_in.Given as goal

abbrev pub invariant-loop-tree : goal.invariant-loop-tree
invariant-loop-tree l = record {
  grows : Grows l.fn.pool l.pool;
  within : ids_below (length l.pool) l.ids ≡ true;
  are : at_all l.pool l.ids ++ put_in (at_all l.fn.pool l.args) (drop l.tree-index l.trees) ≡ at_all l.fn.pool l.fn.ids ++ put_in (at_all l.fn.pool l.args) l.trees;
}
