-- Reference types by their levels.
use Rattle.std.proofs.Common.{◌≡◌, true, false, List, refl, ap}
use Rattle.type_tree.specs.declared.tree.Ty.{Ty}
use Rattle.type_tree.specs.declared.tree.Ty.TheVariants as ty
use Rattle.type_tree.specs.World.{Facts}
use Rattle.type_tree.specs.Kinds.{is_reference, is_reference_at}
use Rattle.type_tree.specs.Canon.{canon_ty, canon_type, shared_form}
use Rattle.type_pool.specs.declared.nodes.Node.{Node}
use Rattle.type_pool.specs.declared.nodes.Node.TheVariants.{Inst, Array, ByRef, Ptr, Var, MVar, Missing, Odd}
use Rattle.type_pool.specs.Trees.{at, at_all, tree_of}
use Rattle.type_pool.specs.Kinds.{is_reference_level}

pub is_reference-tree : (w : Facts) (ts : List Ty) (n : Node) → is_reference w (tree_of ts n) ≡ is_reference_level w n
is_reference-tree w ts (Inst d parts) = ap (is_reference_at w) (ty.outs-Inst d (at_all ts parts))
is_reference-tree w ts (Array part) = ap (is_reference_at w) (ty.outs-Array (at ts part))
is_reference-tree w ts (ByRef part) = ap (is_reference_at w) (ty.outs-ByRef (at ts part))
is_reference-tree w ts (Ptr part) = ap (is_reference_at w) (ty.outs-Ptr (at ts part))
is_reference-tree w ts (Var n) = ap (is_reference_at w) (ty.outs-Var n)
is_reference-tree w ts (MVar n) = ap (is_reference_at w) (ty.outs-MVar n)
is_reference-tree w ts (Missing name value) = ap (is_reference_at w) (ty.outs-Missing name value)
is_reference-tree w ts (Odd code) = ap (is_reference_at w) (ty.outs-Odd code)

module _ (w : Facts) (t : Ty) where
  pub shared-reference : is_reference w t ≡ true → shared_form w t ≡ canon_type w
  shared-reference h = rw h refl

  pub shared-other : is_reference w t ≡ false → shared_form w t ≡ canon_ty w t
  shared-other h = rw h refl
