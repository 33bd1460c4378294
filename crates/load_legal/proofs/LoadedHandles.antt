-- Handles that were loaded.
use Rattle.std.proofs.Common.{◌≡◌, ℕ, Bool, true, false, ◌||◌, eqb, inl, inr, List, [], ◌∷◌, ◌++◌, refl, ap, ◌∙◌, eqb-true, eq-eqb}
use Rattle.std.specs.List.{list_any}
use Rattle.std.proofs.lemmas.Bool.{cases_Bool}
use Rattle.clr_base.specs.declared.ids.Handle.{Handle}
use Rattle.load_events.specs.declared.event.Answer.TheVariants.{Loaded, Refused}
use Rattle.load_events.specs.declared.event.Event.{Event}
use Rattle.load_events.specs.declared.event.Event.TheVariants.{Ask, Done, Find}
use Rattle.load_events.specs.Histories.{loads, Loads}

pub any_append : {A : Type 0} (p : A → Bool) (xs ys : List A) → list_any p (xs ++ ys) ≡ (list_any p xs || list_any p ys)
any_append p [] ys = refl
any_append p (x ∷ xs) ys = elim (cases_Bool (p x)) [
  | inl e ↦ rw e refl
  | inr e ↦ rw e (any_append p xs ys)
]

or_true : (b : Bool) → (b || true) ≡ true
or_true true = refl
or_true false = refl

pub loads_self : (es : List Event) (n : ℕ) (h : Handle) (first : Bool) (fs : List Event) → Loads (es ++ Done n (Loaded h first) ∷ fs) h
loads_self es n h first fs =
    let here : list_any (loads h) (Done n (Loaded h first) ∷ fs) ≡ true = rw (eq-eqb h.0 h.0 refl) refl in
    any_append (loads h) es (Done n (Loaded h first) ∷ fs) ∙ (rw here (or_true (list_any (loads h) es)))

same_handle : (g h : Handle) → eqb g.0 h.0 ≡ true → g ≡ h
same_handle g h e = ap (λ n. record { 0 = n }) (eqb-true g.0 h.0 e)

-- an event that loads a handle is a Done
pub record IsLoad (h : Handle) (e : Event) : Type 0 where
  pub caller : ℕ
  pub first : Bool
  pub is : e ≡ Done caller (Loaded h first)

pub load_of : (h : Handle) (e : Event) → loads h e ≡ true → IsLoad h e
load_of h (Ask n context sig) l = absurd (cc)
load_of h (Find n context sig found) l = absurd (cc)
load_of h (Done n (Refused fault)) l = absurd (cc)
load_of h (Done n (Loaded g first)) l = record { caller = n; first = first; is = ap (λ (x : Handle). Done n (Loaded x first)) (same_handle g h l) }

-- the first Done that loaded a handle
pub record FirstLoad (h : Handle) (es : List Event) : Type 0 where
  pub before : List Event
  pub caller : ℕ
  pub first : Bool
  pub later : List Event
  pub is : es ≡ before ++ Done caller (Loaded h first) ∷ later
  pub none : Loads before h → ⊥

skip : (b c : Bool) → b ≡ false → (b || c) ≡ true → c ≡ true
skip true c e l = absurd (cc)
skip false c e l = l

pub first_load : (h : Handle) (es : List Event) → Loads es h → FirstLoad h es
first_load h [] l = absurd (cc)
first_load h (e ∷ es) l = elim (cases_Bool (loads h e)) [
  | inl here ↦ let d = load_of h e here in record { before = []; caller = d.caller; first = d.first; later = es; is = ap (λ (x : Event). x ∷ es) d.is; none = λ x. absurd (cc) }
  | inr there ↦ let f = first_load h es (skip (loads h e) (list_any (loads h) es) there l) in
      record { before = e ∷ f.before; caller = f.caller; first = f.first; later = f.later; is = ap (λ (x : List Event). e ∷ x) f.is; none = λ x. f.none (skip (loads h e) (list_any (loads h) f.before) there x) }
]
