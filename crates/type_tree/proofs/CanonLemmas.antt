-- The canonical form at each variant, and its laws.
use Rattle.std.proofs.Common.{◌≡◌, ℕ, Bool, true, false, if◌then◌else◌, List, [], ◌∷◌, refl, ap, ap₂, ◌∙◌, sym}
use Rattle.std.proofs.lemmas.Simd.{map-map}
use Rattle.clr_base.specs.declared.ids.DefId.{DefId}
use Rattle.clr_base.specs.declared.ids.NameId.{NameId}
use Rattle.type_tree.specs.declared.tree.Ty.{Ty}
use Rattle.type_tree.specs.declared.tree.Ty.TheOpen.{Ty-F}
use Rattle.type_tree.specs.declared.tree.Ty.TheVariants as ty
use Rattle.type_tree.specs.declared.tree.Ty.TheFolds.{para-roll-Ty}
use Rattle.type_tree.specs.declared.tree.Key.{Key}
use Rattle.type_tree.specs.declared.tree.Key.TheVariants.{Tree, Meth}
use Rattle.type_tree.specs.World.{Facts}
use Rattle.type_tree.specs.Kinds.{is_reference, is_reference_at}
use Rattle.type_tree.specs.Canon.{canon, canon_ty, canon_step, canon_type, shared_part, shared_form, shared_forms}
use Rattle.type_tree.proofs.Folds.{Known, trees, by_variants}

module _ (w : Facts) where
  pub canon-Inst : (d : DefId) (ts : List Ty) → canon_ty w (ty.Inst d ts) ≡ ty.Inst d (shared_forms w ts)
  unfolding canon_ty
  canon-Inst d ts =
      ap (canon_ty w) (sym (ty.rolls-Inst d ts)) ∙ para-roll-Ty Ty (canon_step w) (Ty-F.Inst d ts)
      ∙ ap (ty.Inst d) (map-map (shared_part w) (λ t. (t, canon_ty w t)) ts)

  pub canon-Array : (t : Ty) → canon_ty w (ty.Array t) ≡ ty.Array (shared_form w t)
  unfolding canon_ty
  canon-Array t = ap (canon_ty w) (sym (ty.rolls-Array t)) ∙ para-roll-Ty Ty (canon_step w) (Ty-F.Array t)

  pub canon-ByRef : (t : Ty) → canon_ty w (ty.ByRef t) ≡ ty.ByRef t
  unfolding canon_ty
  canon-ByRef t = ap (canon_ty w) (sym (ty.rolls-ByRef t)) ∙ para-roll-Ty Ty (canon_step w) (Ty-F.ByRef t)

  pub canon-Ptr : (t : Ty) → canon_ty w (ty.Ptr t) ≡ ty.Ptr t
  unfolding canon_ty
  canon-Ptr t = ap (canon_ty w) (sym (ty.rolls-Ptr t)) ∙ para-roll-Ty Ty (canon_step w) (Ty-F.Ptr t)

  pub canon-Var : (n : ℕ) → canon_ty w (ty.Var n) ≡ ty.Var n
  unfolding canon_ty
  canon-Var n = ap (canon_ty w) (sym (ty.rolls-Var n)) ∙ para-roll-Ty Ty (canon_step w) (Ty-F.Var n)

  pub canon-MVar : (n : ℕ) → canon_ty w (ty.MVar n) ≡ ty.MVar n
  unfolding canon_ty
  canon-MVar n = ap (canon_ty w) (sym (ty.rolls-MVar n)) ∙ para-roll-Ty Ty (canon_step w) (Ty-F.MVar n)

  pub canon-Missing : (name : NameId) (value : Bool) → canon_ty w (ty.Missing name value) ≡ ty.Missing name value
  unfolding canon_ty
  canon-Missing name value = ap (canon_ty w) (sym (ty.rolls-Missing name value)) ∙ para-roll-Ty Ty (canon_step w) (Ty-F.Missing name value)

  pub canon-Odd : (code : ℕ) → canon_ty w (ty.Odd code) ≡ ty.Odd code
  unfolding canon_ty
  canon-Odd code = ap (canon_ty w) (sym (ty.rolls-Odd code)) ∙ para-roll-Ty Ty (canon_step w) (Ty-F.Odd code)

pub ruleset forms = (canon-Inst, canon-Array, canon-ByRef, canon-Ptr, canon-Var, canon-MVar, canon-Missing, canon-Odd)

-- a canonical form is its own

abbrev Fixed : Facts → Ty → Type 0
Fixed w t = canon_ty w (canon_ty w t) ≡ canon_ty w t

-- the shared form is chosen by one test
abbrev pub chosen : Facts → Bool → Ty → Ty
chosen w reference t = if reference then canon_type w else t

canon_type_fixed : (w : Facts) → shared_form w (canon_type w) ≡ canon_type w
canon_type_fixed w = either (is_reference w (canon_type w))
  where
    either : (b : Bool) → chosen w b (canon_ty w (canon_type w)) ≡ canon_type w
    either true = refl
    either false = canon-Inst w w.canon []

-- the kind of a tree is that of its canonical form
kind_kept : (w : Facts) (t : Ty) → is_reference w (canon_ty w t) ≡ is_reference w t
kind_kept w = by_variants Same (record {
  inst = λ d ps. let ts = trees Same ps in
      ap (is_reference w) (canon-Inst w d ts) ∙ ap (is_reference_at w) (ty.outs-Inst d (shared_forms w ts)) ∙ sym (ap (is_reference_at w) (ty.outs-Inst d ts));
  array = λ t h. ap (is_reference w) (canon-Array w t) ∙ ap (is_reference_at w) (ty.outs-Array (shared_form w t)) ∙ sym (ap (is_reference_at w) (ty.outs-Array t));
  by_ref = λ t h. ap (is_reference w) (canon-ByRef w t);
  ptr = λ t h. ap (is_reference w) (canon-Ptr w t);
  var = λ n. ap (is_reference w) (canon-Var w n);
  mvar = λ n. ap (is_reference w) (canon-MVar w n);
  missing = λ name value. ap (is_reference w) (canon-Missing w name value);
  odd = λ code. ap (is_reference w) (canon-Odd w code);
})
  where
    Same : Ty → Type 0
    Same t = is_reference w (canon_ty w t) ≡ is_reference w t

shared_fixed : (w : Facts) (t : Ty) → Fixed w t → shared_form w (shared_form w t) ≡ shared_form w t
shared_fixed w t fixed = either (is_reference w t) refl
  where
    either : (b : Bool) → is_reference w t ≡ b → shared_form w (chosen w b (canon_ty w t)) ≡ chosen w b (canon_ty w t)
    either true e = canon_type_fixed w
    either false e = ap (λ b. chosen w b (canon_ty w (canon_ty w t))) (kind_kept w t ∙ e) ∙ fixed

all_shared_fixed : (w : Facts) (ps : List (Known (Fixed w))) → shared_forms w (shared_forms w (trees (Fixed w) ps)) ≡ shared_forms w (trees (Fixed w) ps)
all_shared_fixed w [] = refl
all_shared_fixed w (p ∷ ps) = ap₂ ◌∷◌ (shared_fixed w p.0 p.1) (all_shared_fixed w ps)

pub canon_fixed : (w : Facts) (t : Ty) → Fixed w t
canon_fixed w = by_variants (Fixed w) (record {
  inst = λ d ps. let ts = trees (Fixed w) ps in
      ap (canon_ty w) (canon-Inst w d ts) ∙ canon-Inst w d (shared_forms w ts) ∙ ap (ty.Inst d) (all_shared_fixed w ps) ∙ sym (canon-Inst w d ts);
  array = λ t h. ap (canon_ty w) (canon-Array w t) ∙ canon-Array w (shared_form w t) ∙ ap ty.Array (shared_fixed w t h) ∙ sym (canon-Array w t);
  by_ref = λ t h. ap (canon_ty w) (canon-ByRef w t);
  ptr = λ t h. ap (canon_ty w) (canon-Ptr w t);
  var = λ n. ap (canon_ty w) (canon-Var w n);
  mvar = λ n. ap (canon_ty w) (canon-MVar w n);
  missing = λ name value. ap (canon_ty w) (canon-Missing w name value);
  odd = λ code. ap (canon_ty w) (canon-Odd w code);
})

pub shared_of_shared : (w : Facts) (t : Ty) → shared_form w (shared_form w t) ≡ shared_form w t
shared_of_shared w t = shared_fixed w t (canon_fixed w t)

shared_of_all_shared : (w : Facts) (ts : List Ty) → shared_forms w (shared_forms w ts) ≡ shared_forms w ts
shared_of_all_shared w [] = refl
shared_of_all_shared w (t ∷ ts) = ap₂ ◌∷◌ (shared_of_shared w t) (shared_of_all_shared w ts)

pub key_fixed : (w : Facts) (k : Key) → canon w (canon w k) ≡ canon w k
key_fixed w (Tree t) = ap Tree (canon_fixed w t)
key_fixed w (Meth k) = λ i. Meth (record { owner = canon_fixed w k.owner i; method = k.method; args = shared_of_all_shared w k.args i })
