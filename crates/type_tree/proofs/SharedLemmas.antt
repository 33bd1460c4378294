-- The shared form of a tree with arguments put in depends on the shared forms of these arguments.
use Rattle.std.proofs.Common.{◌≡◌, ℕ, suc, zero, Bool, not, IsTrue, List, [], ◌∷◌, map, refl, ap, ap₂, ◌∙◌, sym}
use Rattle.std.proofs.lemmas.Bool.{and_parts}
use Rattle.std.specs.List.{list_all}
use Rattle.clr_base.specs.declared.ids.DefId.{DefId}
use Rattle.type_tree.specs.declared.tree.Ty.{Ty}
use Rattle.type_tree.specs.declared.tree.Ty.TheOpen.{Ty-F}
use Rattle.type_tree.specs.declared.tree.Ty.TheVariants as ty
use Rattle.type_tree.specs.World.{Facts}
use Rattle.type_tree.specs.Kinds.{is_value_def, is_reference_at}
use Rattle.type_tree.specs.Canon.{canon_ty, canon_type, shared_form, shared_forms, is_pointer_free, pointer_free_step}
use Rattle.type_tree.specs.Subst as spec
use Rattle.type_tree.proofs.Folds.{Known, trees, by_variants, fold-Inst, fold-Array, fold-ByRef, fold-Ptr, fold-Var, fold-MVar, fold-Missing, fold-Odd}
use Rattle.type_tree.proofs.CanonLemmas.{chosen, canon-Inst, shared_of_shared}

module _ (w : Facts) where
  shared-Inst : (d : DefId) (ts : List Ty) → shared_form w (ty.Inst d ts) ≡ chosen w (not (is_value_def w d)) (ty.Inst d (shared_forms w ts))
  shared-Inst d ts = ap₂ (chosen w) (ap (is_reference_at w) (ty.outs-Inst d ts)) (canon-Inst w d ts)

  shared-Array : (t : Ty) → shared_form w (ty.Array t) ≡ canon_type w
  shared-Array t = ap (λ b. chosen w b (canon_ty w (ty.Array t))) (ap (is_reference_at w) (ty.outs-Array t))

  -- what stands at n, given by its shared form
  shared-entry : (ts : List Ty) (n : ℕ) (otherwise : Ty)
      → shared_form w (spec.entry ts n otherwise) ≡ shared_form w (spec.entry (shared_forms w ts) n otherwise)
  shared-entry [] n otherwise = refl
  shared-entry (t ∷ ts) zero otherwise = sym (shared_of_shared w t)
  shared-entry (t ∷ ts) (suc n) otherwise = shared-entry ts n otherwise

module _ (w : Facts) (types methods : List Ty) where
  abbrev exact : Ty → Ty
  exact = spec.subst_ty types methods

  abbrev common : Ty → Ty
  common = spec.subst_ty (shared_forms w types) (shared_forms w methods)

  abbrev Shares : Ty → Type 0
  Shares t = IsTrue (is_pointer_free t) → shared_form w (exact t) ≡ shared_form w (common t)

  abbrev s1 : Ty-F Ty → Ty
  s1 = spec.subst_step types methods

  abbrev s2 : Ty-F Ty → Ty
  s2 = spec.subst_step (shared_forms w types) (shared_forms w methods)

  parts_share : (ps : List (Known Shares)) → IsTrue (list_all (λ p. p) (map is_pointer_free (trees Shares ps)))
      → shared_forms w (map exact (trees Shares ps)) ≡ shared_forms w (map common (trees Shares ps))
  parts_share [] h = refl
  parts_share (p ∷ ps) h =
      let both = and_parts (is_pointer_free p.0) (list_all (λ b. b) (map is_pointer_free (trees Shares ps))) h in
      ap₂ ◌∷◌ (p.1 both.0) (parts_share ps both.1)

  inst_shares : (d : DefId) (ps : List (Known Shares)) → Shares (ty.Inst d (trees Shares ps))
  inst_shares d ps h =
      let ts = trees Shares ps in
      let free : IsTrue (list_all (λ p. p) (map is_pointer_free ts)) = sym (fold-Inst Bool pointer_free_step d ts) ∙ h in
      ap (shared_form w) (fold-Inst Ty s1 d ts) ∙ shared-Inst w d (map exact ts)
      ∙ ap (λ xs. chosen w (not (is_value_def w d)) (ty.Inst d xs)) (parts_share ps free)
      ∙ sym (ap (shared_form w) (fold-Inst Ty s2 d ts) ∙ shared-Inst w d (map common ts))

  pub shares : (t : Ty) → Shares t
  shares = by_variants Shares (record {
    inst = inst_shares;
    array = λ t ih h.
        ap (shared_form w) (fold-Array Ty s1 t) ∙ shared-Array w (exact t)
        ∙ sym (ap (shared_form w) (fold-Array Ty s2 t) ∙ shared-Array w (common t));
    by_ref = λ t ih h. absurd (let no = sym (fold-ByRef Bool pointer_free_step t) ∙ h in cc);
    ptr = λ t ih h. absurd (let no = sym (fold-Ptr Bool pointer_free_step t) ∙ h in cc);
    var = λ n h.
        ap (shared_form w) (fold-Var Ty s1 n) ∙ shared-entry w types n (ty.Var n) ∙ sym (ap (shared_form w) (fold-Var Ty s2 n));
    mvar = λ n h.
        ap (shared_form w) (fold-MVar Ty s1 n) ∙ shared-entry w methods n (ty.MVar n) ∙ sym (ap (shared_form w) (fold-MVar Ty s2 n));
    missing = λ name value h. ap (shared_form w) (fold-Missing Ty s1 name value ∙ sym (fold-Missing Ty s2 name value));
    odd = λ code h. ap (shared_form w) (fold-Odd Ty s1 code ∙ sym (fold-Odd Ty s2 code));
  })
