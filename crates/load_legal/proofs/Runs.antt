-- Histories in parts: each event may come next after those before it.
use Rattle.std.proofs.Common.{List, [], ◌∷◌, ◌++◌, sym, subst, append_assoc, append-nil}
use Rattle.load_events.specs.declared.event.Event.{Event}
use Rattle.load_events.specs.Histories.{Follows}

module _ (may : List Event → Event → Type 0) where
  pub run_first : (before xs ys : List Event) → Follows may before (xs ++ ys) → Follows may before xs
  run_first before [] ys f = tt
  run_first before (x ∷ xs) ys f = (f.0, run_first (before ++ x ∷ []) xs ys f.1)

  pub run_later : (before xs ys : List Event) → Follows may before (xs ++ ys) → Follows may (before ++ xs) ys
  run_later before [] ys f = subst (λ (l : List Event). Follows may l ys) (sym (append-nil before)) f
  run_later before (x ∷ xs) ys f = subst (λ (l : List Event). Follows may l ys) (append_assoc before (x ∷ []) xs) (run_later (before ++ x ∷ []) xs ys f.1)

  pub run_event : (es : List Event) (e : Event) (later : List Event) → Follows may [] (es ++ e ∷ later) → may es e
  run_event es e later f = let r = run_later [] es (e ∷ later) f in r.0

  pub run_next : (before es : List Event) (e : Event) → Follows may before es → may (before ++ es) e → Follows may before (es ++ e ∷ [])
  run_next before [] e f m = (subst (λ (l : List Event). may l e) (append-nil before) m, tt)
  run_next before (x ∷ es) e f m =
      (f.0, run_next (before ++ x ∷ []) es e f.1 (subst (λ (l : List Event). may l e) (sym (append_assoc before (x ∷ []) es)) m))

  -- of two events far apart, the later one
  pub run_second : (es : List Event) (d : Event) (fs : List Event) (e : Event) (gs : List Event) → Follows may [] (es ++ d ∷ (fs ++ e ∷ gs)) → may (es ++ d ∷ fs) e
  run_second es d fs e gs f = run_event (es ++ d ∷ fs) e gs (subst (λ (l : List Event). Follows may [] l) (sym (append_assoc es (d ∷ fs) (e ∷ gs))) f)
