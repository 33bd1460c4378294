-- What is told of definitions that exist.
use Rattle.std.proofs.Common.{◌≡◌, ◌↔◌, ℕ, ◌<◌, ◌≤◌, nat_lt, inl, inr, ◌⊎◌, Bool, true, false, ◌||◌, cond, IsTrue, length, Option, Some, None, refl, ap, ◌∙◌, sym, subst, arith, unwrap_or}
use Rattle.std.specs.Option.{option_map_or}
use Rattle.std.proofs.lemmas.Bool.{cases_Bool, ltb-true}
use Rattle.std.proofs.lemmas.Option.{slice_get_cases}
use Rattle.clr_base.specs.declared.ids.DefId.{DefId}
use Rattle.type_tree.specs.declared.tree.Ty.{Ty}
use Rattle.type_tree.specs.declared.tree.Ty.TheOpen.{Ty-F}
use Rattle.type_tree.specs.declared.tree.Ty.TheViews.{out-Ty}
use Rattle.type_tree.specs.World.{Facts}
use Rattle.def_faults.specs.declared.faults.DefFaults.{DefFaults}
use Rattle.def_faults.specs.Faults.{IsFaults}
use Rattle.def_faults.specs.NotFound as missing
use Rattle.type_expands.specs.Expands as spreads
use Rattle.type_expands.proofs.Deciding.{answer_is}
use Rattle.key_faults.specs.declared.told.Told.{Told}
use Rattle.key_faults.specs.Definitions.{existing, def_at, def_in, with_def, Of, WithDef}
use Rattle.key_faults.specs.Shapes.{is_missing, is_outside}
use Rattle.key_faults.specs.Told.{IsTold, faults_of, expands, no_faults}
use Rattle.key_faults.specs.Faults.{NotFound, Expanding, IsLeftOut, NotInProfile, tells_not_found, tells_expanding, tells_not_in_profile}

-- what is told of a definition of the world is so
pub told_faults : (w : Facts) (told : Told) (d : DefId) → IsTold w told → d.0 < length w.defs → IsFaults w d (faults_of told d)
told_faults w told d is low = elim ((slice_get_cases told.faults d.0).1) [
  | inl here ↦ subst (λ (o : Option DefFaults). IsFaults w d (unwrap_or o no_faults)) (sym here.2) (is.faults.each d.0 here.0 here.2)
  | inr none ↦ absurd (let long = is.faults.as_many in let past = none.0 in omega arith)
]

-- ---- the definition of a tree exists

exists : (w : Facts) (e d : DefId) → existing w e ≡ Some d → d.0 < length w.defs
exists w e d is = elim (cases_Bool (nat_lt e.0 (length w.defs))) [
  | inl here ↦
      let found : Some e ≡ Some d = sym (ap (λ (b : Bool). cond b (Some e) None) here) ∙ is in
      let same : e ≡ d = cc in
      subst (λ (x : DefId). x.0 < length w.defs) same (ltb-true e.0 (length w.defs) here)
  | inr past ↦ absurd (let none : ◌≡◌ {A = Option DefId} None (Some d) = sym (ap (λ (b : Bool). cond b (Some e) None) past) ∙ is in cc)
]

exists_at : (w : Facts) (f : Ty-F Ty) (d : DefId) → def_at w f ≡ Some d → d.0 < length w.defs
exists_at w (Ty-F.Inst e args) d is = exists w e d is
exists_at w (Ty-F.Array part) d is = absurd (cc)
exists_at w (Ty-F.ByRef part) d is = absurd (cc)
exists_at w (Ty-F.Ptr part) d is = absurd (cc)
exists_at w (Ty-F.Var n) d is = absurd (cc)
exists_at w (Ty-F.MVar n) d is = absurd (cc)
exists_at w (Ty-F.Missing name value) d is = absurd (cc)
exists_at w (Ty-F.Odd code) d is = absurd (cc)

pub exists_in : (w : Facts) (t : Ty) (d : DefId) → def_in w t ≡ Some d → d.0 < length w.defs
exists_in w t d is = exists_at w (out-Ty t) d is

-- a test of the definition, where there is one
pub of_some : (w : Facts) (p : DefId → Bool) (t : Ty) (d : DefId) → def_in w t ≡ Some d → p d ≡ with_def w p t
of_some w p t d is = sym (ap (λ (o : Option DefId). option_map_or p o false) is)

pub of_none : (w : Facts) (p : DefId → Bool) (t : Ty) → def_in w t ≡ None → false ≡ with_def w p t
of_none w p t is = sym (ap (λ (o : Option DefId). option_map_or p o false) is)

-- ---- laws

option_is : (p : DefId → Bool) (P : DefId → Type 0) (o : Option DefId) → ((d : DefId) → o ≡ Some d → IsTrue (p d) ↔ P d) → IsTrue (option_map_or p o false) ↔ Of P o
option_is p P None h = (λ t. absurd (cc), λ x. absurd x)
option_is p P (Some d) h = h d refl

with_is : (w : Facts) (p : DefId → Bool) (P : DefId → Type 0) (t : Ty) → ((d : DefId) → d.0 < length w.defs → IsTrue (p d) ↔ P d) → IsTrue (with_def w p t) ↔ WithDef w P t
with_is w p P t h = option_is p P (def_in w t) (λ d is. h d (exists_in w t d is))

or_is : (a b : Bool) (Q : Type 0) → IsTrue b ↔ Q → IsTrue (a || b) ↔ ((a ≡ true) ⊎ Q)
or_is true b Q h = (λ t. inl refl, λ s. refl)
or_is false b Q h = (λ t. inr (h.0 t), λ s. elim s [ inl e ↦ absurd (cc) | inr q ↦ h.1 q ])

or_same : (a b c : Bool) (P : Type 0) → IsTrue a ↔ P → b ≡ c → IsTrue (a || b) ↔ (P ⊎ (c ≡ true))
or_same true b c P h e = (λ t. inl (h.0 refl), λ s. refl)
or_same false b c P h e = (λ t. inr (sym e ∙ t), λ s. elim s [ inl p ↦ absurd (let f : false ≡ true = h.1 p in cc) | inr q ↦ e ∙ q ])

pub not_found_is : (w : Facts) (told : Told) (t : Ty) → IsTold w told → IsTrue (tells_not_found told w t) ↔ NotFound w t
not_found_is w told t is =
    or_is (is_missing t) _ _ (with_is w (λ (d : DefId). (faults_of told d).not_found) (missing.NotFound w) t (λ d low. (told_faults w told d is low).not_found))

pub expanding_is : (w : Facts) (told : Told) (t : Ty) → IsTold w told → IsTrue (tells_expanding told w t) ↔ Expanding w t
expanding_is w told t is = with_is w (expands told) (λ (d : DefId). spreads.Expands w d.0) t (λ d low. answer_is w told.expanding d.0 is.expanding)

pub not_in_profile_is : (w : Facts) (told : Told) (t : Ty) → IsTold w told → IsTrue (tells_not_in_profile told w t) ↔ NotInProfile w t
not_in_profile_is w told t is =
    or_is (is_outside t) _ _ (with_is w (λ (d : DefId). (faults_of told d).not_in_profile || (faults_of told d).default_method) (IsLeftOut w) t
    (λ d low. let f = told_faults w told d is low in or_same _ _ _ _ f.not_in_profile f.default_method))
