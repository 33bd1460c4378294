-- The arguments of trees of a pool.
use Rattle.std.proofs.Common.{◌≡◌, ℕ, ◌≤◌, true, List, length, ap, ◌∙◌, sym}
use Rattle.type_tree.specs.declared.tree.Ty.{Ty}
use Rattle.type_tree.specs.Context.{arguments}
use Rattle.type_pool.specs.declared.nodes.Id.{Id}
use Rattle.type_pool.specs.declared.nodes.Node.{Node}
use Rattle.type_pool.specs.Trees.{at_all, tree_of, parts_below, ids_below}
use Rattle.type_pool.specs.Keys.{arguments_of}
use Rattle.type_pool.specs.Jobs.{SpellAll}
use Rattle.type_pool.proofs.Levels.{ids_below-more}
use Rattle.type_pool.proofs.KeyLemmas.{arguments-tree, arguments-below}

pub arguments_spell : (ts : List Ty) (node : Node) (n : ℕ) (t : Ty) (ids : List Id) → n ≤ length ts → parts_below n node ≡ true → tree_of ts node ≡ t → ids ≡ arguments_of node → SpellAll ts ids (arguments t)
arguments_spell ts node n t ids le below is same = record {
  within = ap (ids_below (length ts)) same ∙ ids_below-more n (length ts) (arguments_of node) le (arguments-below n node below);
  are = ap (at_all ts) same ∙ (sym (arguments-tree ts node) ∙ ap arguments is);
}
