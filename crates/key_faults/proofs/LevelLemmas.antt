-- Levels of trees of a pool.
use Rattle.std.proofs.Common.{◌≡◌, ℕ, ◌+◌, ◌<◌, ◌≤◌, suc, Bool, true, List, ◌∷◌, length, drop, drop-cons, get_or, ap, ◌∙◌, sym, arith, add-one}
use Rattle.std.proofs.lemmas.Bool.{and_parts, ltb-true}
use Rattle.type_tree.specs.declared.tree.Ty.{Ty}
use Rattle.type_tree.specs.declared.tree.Ty.TheOpen.{Ty-F}
use Rattle.type_tree.specs.declared.tree.Ty.TheVariants as ty
use Rattle.type_tree.specs.declared.tree.Ty.TheViews.{out-Ty}
use Rattle.type_pool.specs.declared.nodes.Id.{Id}
use Rattle.type_pool.specs.declared.nodes.Node.{Node}
use Rattle.type_pool.specs.declared.nodes.Node.TheVariants.{Inst, Array, ByRef, Ptr, Var, MVar, Missing, Odd}
use Rattle.type_pool.specs.Trees.{at, at_all, tree_of, ids_below}
use Rattle.key_faults.specs.Levels.{level}

out_level : (ts : List Ty) (n : Node) → out-Ty (tree_of ts n) ≡ level ts n
out_level ts (Inst d parts) = ty.outs-Inst d (at_all ts parts)
out_level ts (Array part) = ty.outs-Array (at ts part)
out_level ts (ByRef part) = ty.outs-ByRef (at ts part)
out_level ts (Ptr part) = ty.outs-Ptr (at ts part)
out_level ts (Var n) = ty.outs-Var n
out_level ts (MVar n) = ty.outs-MVar n
out_level ts (Missing name value) = ty.outs-Missing name value
out_level ts (Odd code) = ty.outs-Odd code

-- what the level of a tree says is what its node says
pub by_level : {R : Type 0} (f : Ty-F Ty → R) (ts : List Ty) (t : Ty) (n : Node) → tree_of ts n ≡ t → f (level ts n) ≡ f (out-Ty t)
by_level f ts t n e = ap f (sym (out_level ts n)) ∙ ap (λ (x : Ty). f (out-Ty x)) e

pub row : (ids : List Id) (i : ℕ) (a : Id) → i < length ids → a ≡ get_or ids i a → drop i ids ≡ a ∷ drop (i + 1) ids
row ids i a low is = rw add-one (drop-cons ids i a low ∙ ap (λ (x : Id). x ∷ drop (suc i) ids) (sym is))
