-- The latest event of a caller.
use Rattle.std.proofs.Common.{◌≡◌, ◌≢◌, ℕ, eqb, inl, inr, List, [], ◌∷◌, ◌++◌, Option, Some, None, refl, ap, sym, ◌∙◌, append-nil, eqb-true, eq-eqb}
use Rattle.std.proofs.lemmas.Bool.{cases_Bool}
use Rattle.clr_base.specs.declared.ids.Handle.{Handle}
use Rattle.clr_base.specs.declared.ids.SigId.{SigId}
use Rattle.load_events.specs.declared.event.Answer.{Answer}
use Rattle.load_events.specs.declared.event.Event.{Event}
use Rattle.load_events.specs.declared.event.Event.TheVariants.{Ask, Done}
use Rattle.load_events.specs.Events.{caller_of}
use Rattle.load_events.specs.Histories.{events_of, last_or, latest}

pub events_append : (n : ℕ) (xs ys : List Event) → events_of n (xs ++ ys) ≡ events_of n xs ++ events_of n ys
events_append n [] ys = refl
events_append n (x ∷ xs) ys = elim (cases_Bool (eqb (caller_of x) n)) [
  | inl e ↦ rw e (ap (λ l. x ∷ l) (events_append n xs ys))
  | inr e ↦ rw e (events_append n xs ys)
]

last_snoc : (o : Option Event) (xs : List Event) (e : Event) → last_or o (xs ++ e ∷ []) ≡ Some e
last_snoc o [] e = refl
last_snoc o (x ∷ xs) e = last_snoc (Some x) xs e

last_from : (o : Option Event) (xs : List Event) (e : Event) (ys : List Event) → last_or o (xs ++ e ∷ ys) ≡ last_or (Some e) ys
last_from o [] e ys = refl
last_from o (x ∷ xs) e ys = last_from (Some x) xs e ys

own_one : (n : ℕ) (e : Event) (es : List Event) → caller_of e ≡ n → events_of n (e ∷ es) ≡ e ∷ events_of n es
own_one n e es is = rw (eq-eqb (caller_of e) n is) refl

pub latest_own : (es : List Event) (e : Event) → latest (caller_of e) (es ++ e ∷ []) ≡ Some e
latest_own es e =
    let n = caller_of e in
    ap (last_or None) (events_append n es (e ∷ []) ∙ ap (λ l. events_of n es ++ l) (own_one n e [] refl)) ∙ last_snoc None (events_of n es) e

pub latest_others : (n : ℕ) (es : List Event) (e : Event) → caller_of e ≢ n → latest n (es ++ e ∷ []) ≡ latest n es
latest_others n es e differs = elim (cases_Bool (eqb (caller_of e) n)) [
  | inl is ↦ absurd (differs (eqb-true (caller_of e) n is))
  | inr is ↦ let none : events_of n (e ∷ []) ≡ [] = rw is refl in
      ap (last_or None) (events_append n es (e ∷ []) ∙ (ap (λ l. events_of n es ++ l) none ∙ append-nil (events_of n es)))
]

-- behind an answer the latest event is an Ask only where the caller asked again
asked_of : (n : ℕ) (a : Answer) (zs : List Event) (c : Option Handle) (s : SigId) → last_or (Some (Done n a)) zs ≡ Some (Ask n c s) → last_or None zs ≡ Some (Ask n c s)
asked_of n a [] c s e = absurd (cc)
asked_of n a (z ∷ zs) c s e = e

pub asked_again : (n : ℕ) (a : Answer) (es fs : List Event) (c : Option Handle) (s : SigId) → latest n (es ++ Done n a ∷ fs) ≡ Some (Ask n c s) → latest n fs ≡ Some (Ask n c s)
asked_again n a es fs c s e =
    let parts = events_append n es (Done n a ∷ fs) ∙ ap (λ l. events_of n es ++ l) (own_one n (Done n a) fs refl) in
    asked_of n a (events_of n fs) c s (sym (last_from None (events_of n es) (Done n a) (events_of n fs)) ∙ (sym (ap (last_or None) parts) ∙ e))
