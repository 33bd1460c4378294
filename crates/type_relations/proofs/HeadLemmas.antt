-- Trees that are neither an instantiation of a definition nor an array.
use Rattle.std.proofs.Common.{◌≡◌, ℕ, ◌≤◌, inl, inr, Bool, true, false, List, [], length, None, slice_get, ap, ◌∙◌, arith}
use Rattle.std.proofs.lemmas.Option.{slice_get_cases}
use Rattle.clr_base.specs.declared.ids.DefId.{DefId}
use Rattle.type_tree.specs.declared.tree.Ty.{Ty}
use Rattle.type_tree.specs.declared.tree.Ty.TheVariants as ty
use Rattle.type_tree.specs.declared.tree.Ty.TheViews.{out-Ty}
use Rattle.type_tree.specs.World.{Facts}
use Rattle.type_pool.specs.declared.nodes.Id.{Id}
use Rattle.type_pool.specs.declared.nodes.Node.{Node}
use Rattle.type_pool.specs.declared.nodes.Node.TheVariants.{Inst, Array, ByRef, Ptr, Var, MVar, Missing, Odd}
use Rattle.type_pool.specs.Trees.{at, at_all, tree_of}
use Rattle.type_relations.specs.Relations.{bases_of, bases_at, value_fields_of, contents_at}

abbrev pub IsOther : Facts → Ty → Type 0
IsOther w t = (bases_at w (out-Ty t) ≡ []) × (contents_at w (out-Ty t) ≡ [])

abbrev pub is_other : Node → Bool
is_other (Inst d parts) = false
is_other (Array part) = false
is_other _ = true

pub other : (w : Facts) (ts : List Ty) (n : Node) → is_other n ≡ true → IsOther w (tree_of ts n)
other w ts (Inst d parts) h = absurd (cc)
other w ts (Array part) h = absurd (cc)
other w ts (ByRef part) h = (ap (bases_at w) (ty.outs-ByRef (at ts part)), ap (contents_at w) (ty.outs-ByRef (at ts part)))
other w ts (Ptr part) h = (ap (bases_at w) (ty.outs-Ptr (at ts part)), ap (contents_at w) (ty.outs-Ptr (at ts part)))
other w ts (Var n) h = (ap (bases_at w) (ty.outs-Var n), ap (contents_at w) (ty.outs-Var n))
other w ts (MVar n) h = (ap (bases_at w) (ty.outs-MVar n), ap (contents_at w) (ty.outs-MVar n))
other w ts (Missing name value) h = (ap (bases_at w) (ty.outs-Missing name value), ap (contents_at w) (ty.outs-Missing name value))
other w ts (Odd code) h = (ap (bases_at w) (ty.outs-Odd code), ap (contents_at w) (ty.outs-Odd code))

past : {A : Type 0} (xs : List A) (i : ℕ) → length xs ≤ i → slice_get xs i ≡ None
past xs i h = elim ((slice_get_cases xs i).1) [ inl there ↦ absurd (let low = there.1 in omega arith) | inr none ↦ none.1 ]

-- a definition that the world doesn't have
pub no_def : (w : Facts) (ts : List Ty) (d : DefId) (args : List Id) → length w.defs ≤ d.0 → IsOther w (tree_of ts (Inst d args))
no_def w ts d args h =
    let none = past w.defs d.0 h in (
      ap (bases_at w) (ty.outs-Inst d (at_all ts args)) ∙ ap (bases_of (at_all ts args)) none,
      ap (contents_at w) (ty.outs-Inst d (at_all ts args)) ∙ ap (value_fields_of w (at_all ts args)) none,
    )
