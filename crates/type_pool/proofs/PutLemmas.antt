-- What is put in at each level.
use Rattle.std.proofs.Common.{◌≡◌, ℕ, zero, suc, true, Bool, List, [], ◌∷◌, map, unwrap_or, slice_get, length, refl, ap, ◌∙◌, sym}
use Rattle.std.proofs.lemmas.Bool.{and_parts, ltb-true}
use Rattle.clr_base.specs.declared.ids.DefId.{DefId}
use Rattle.clr_base.specs.declared.ids.NameId.{NameId}
use Rattle.type_tree.specs.declared.tree.Ty.{Ty}
use Rattle.type_tree.specs.declared.tree.Ty.TheOpen.{Ty-F}
use Rattle.type_tree.specs.declared.tree.Ty.TheVariants as ty
use Rattle.type_tree.specs.declared.tree.Ty.TheFolds.{fold-roll-Ty}
use Rattle.type_tree.specs.Subst.{subst_ty, subst_step, entry}
use Rattle.type_pool.specs.declared.nodes.Id.{Id}
use Rattle.type_pool.specs.Trees.{at_all, ids_below, Spells}

module _ (us ms : List Ty) where
  pub subst-Inst : (d : DefId) (ts : List Ty) → subst_ty us ms (ty.Inst d ts) ≡ ty.Inst d (map (subst_ty us ms) ts)
  subst-Inst d ts = ap (subst_ty us ms) (sym (ty.rolls-Inst d ts)) ∙ fold-roll-Ty Ty (subst_step us ms) (Ty-F.Inst d ts)

  pub subst-Array : (t : Ty) → subst_ty us ms (ty.Array t) ≡ ty.Array (subst_ty us ms t)
  subst-Array t = ap (subst_ty us ms) (sym (ty.rolls-Array t)) ∙ fold-roll-Ty Ty (subst_step us ms) (Ty-F.Array t)

  pub subst-ByRef : (t : Ty) → subst_ty us ms (ty.ByRef t) ≡ ty.ByRef (subst_ty us ms t)
  subst-ByRef t = ap (subst_ty us ms) (sym (ty.rolls-ByRef t)) ∙ fold-roll-Ty Ty (subst_step us ms) (Ty-F.ByRef t)

  pub subst-Ptr : (t : Ty) → subst_ty us ms (ty.Ptr t) ≡ ty.Ptr (subst_ty us ms t)
  subst-Ptr t = ap (subst_ty us ms) (sym (ty.rolls-Ptr t)) ∙ fold-roll-Ty Ty (subst_step us ms) (Ty-F.Ptr t)

  pub subst-Var : (n : ℕ) → subst_ty us ms (ty.Var n) ≡ entry us n (ty.Var n)
  subst-Var n = ap (subst_ty us ms) (sym (ty.rolls-Var n)) ∙ fold-roll-Ty Ty (subst_step us ms) (Ty-F.Var n)

  pub subst-MVar : (n : ℕ) → subst_ty us ms (ty.MVar n) ≡ entry ms n (ty.MVar n)
  subst-MVar n = ap (subst_ty us ms) (sym (ty.rolls-MVar n)) ∙ fold-roll-Ty Ty (subst_step us ms) (Ty-F.MVar n)

  pub subst-Missing : (name : NameId) (value : Bool) → subst_ty us ms (ty.Missing name value) ≡ ty.Missing name value
  subst-Missing name value = ap (subst_ty us ms) (sym (ty.rolls-Missing name value)) ∙ fold-roll-Ty Ty (subst_step us ms) (Ty-F.Missing name value)

  pub subst-Odd : (n : ℕ) → subst_ty us ms (ty.Odd n) ≡ ty.Odd n
  subst-Odd n = ap (subst_ty us ms) (sym (ty.rolls-Odd n)) ∙ fold-roll-Ty Ty (subst_step us ms) (Ty-F.Odd n)

-- what stands for a variable, by its number in the pool
pub entry_spells : (ts : List Ty) (ids : List Id) (n : ℕ) (id : Id) (t : Ty) → ids_below (length ts) ids ≡ true → Spells ts id t
    → Spells ts (unwrap_or (slice_get ids n) id) (entry (at_all ts ids) n t)
entry_spells ts [] n id t h s = s
entry_spells ts (a ∷ ids) zero id t h s = record { within = ltb-true a.0 (length ts) (and_parts _ _ h).0; is = refl }
entry_spells ts (a ∷ ids) (suc n) id t h s = entry_spells ts ids n id t (and_parts _ _ h).1 s
