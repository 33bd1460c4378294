-- The canonical form of a tree and of a key, in which all reference types are one.
use Rattle.std.specs.Prelude.{Bool, true, false, if◌then◌else◌, List, [], map}
use Rattle.std.specs.List.{list_all}
use Rattle.type_tree.specs.declared.tree.Ty.{Ty}
use Rattle.type_tree.specs.declared.tree.Ty.TheOpen.{Ty-F}
use Rattle.type_tree.specs.declared.tree.Ty.TheVariants as ty
use Rattle.type_tree.specs.declared.tree.Ty.TheFolds.{fold-Ty, para-Ty}
use Rattle.type_tree.specs.declared.tree.Key.{Key}
use Rattle.type_tree.specs.declared.tree.Key.TheVariants.{Tree, Meth}
use Rattle.type_tree.specs.World.{Facts}
use Rattle.type_tree.specs.Kinds.{is_reference}

-- System.__Canon
abbrev pub canon_type : Facts → Ty
canon_type w = ty.Inst w.canon []

-- the shared form of a part that is given with its canonical form: System.__Canon for a reference
-- type, else that form
abbrev pub shared_part : Facts → Ty × Ty → Ty
shared_part w part = if is_reference w part.0 then canon_type w else part.1

-- one level, each part given with its canonical form: each argument, and an array's element, in its
-- shared form; every other tree is its own canonical form
abbrev pub canon_step : Facts → Ty-F (Ty × Ty) → Ty
canon_step w (Ty-F.Inst d parts) = ty.Inst d (map (shared_part w) parts)
canon_step w (Ty-F.Array part) = ty.Array (shared_part w part)
canon_step w (Ty-F.ByRef part) = ty.ByRef part.0
canon_step w (Ty-F.Ptr part) = ty.Ptr part.0
canon_step w (Ty-F.Var n) = ty.Var n
canon_step w (Ty-F.MVar n) = ty.MVar n
canon_step w (Ty-F.Missing name value) = ty.Missing name value
canon_step w (Ty-F.Odd code) = ty.Odd code

unfoldable pub canon_ty : Facts → Ty → Ty
canon_ty w = para-Ty Ty (canon_step w)

-- the shared form of a tree: System.__Canon for a reference type, else its canonical form
abbrev pub shared_form : Facts → Ty → Ty
shared_form w t = shared_part w (t, canon_ty w t)

abbrev pub shared_forms : Facts → List Ty → List Ty
shared_forms w ts = map (shared_form w) ts

-- a method key has the canonical form of its owner, and its arguments in their shared forms
abbrev pub canon : Facts → Key → Key
canon w (Tree t) = Tree (canon_ty w t)
canon w (Meth k) = Meth (record { owner = canon_ty w k.owner; method = k.method; args = shared_forms w k.args })

-- no managed and no unmanaged pointer stands in the tree
abbrev pub pointer_free_step : Ty-F Bool → Bool
pointer_free_step (Ty-F.Inst d parts) = list_all (λ p. p) parts
pointer_free_step (Ty-F.Array part) = part
pointer_free_step (Ty-F.ByRef part) = false
pointer_free_step (Ty-F.Ptr part) = false
pointer_free_step _ = true

abbrev pub is_pointer_free : Ty → Bool
is_pointer_free = fold-Ty Bool pointer_free_step

abbrev pub are_pointer_free : List Ty → Bool
are_pointer_free ts = list_all (λ p. p) (map is_pointer_free ts)
