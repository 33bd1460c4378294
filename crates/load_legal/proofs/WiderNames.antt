-- Legal histories: what was loaded, and more names.
use Rattle.std.proofs.Common.{◌≡◌, ℕ, Bool, true, List, [], ◌∷◌, ◌++◌, Option, Some, None, refl, ap, ◌∙◌, subst}
use Rattle.clr_base.specs.declared.ids.Handle.{Handle}
use Rattle.clr_base.specs.declared.ids.SigId.{SigId}
use Rattle.type_tree.specs.declared.tree.Key.{Key}
use Rattle.load_events.specs.declared.load_fault.LoadFault.{LoadFault}
use Rattle.load_events.specs.declared.event.Answer.{Answer}
use Rattle.load_events.specs.declared.event.Answer.TheVariants.{Loaded, Refused}
use Rattle.load_events.specs.declared.event.Event.{Event}
use Rattle.load_events.specs.declared.event.Event.TheVariants.{Ask, Done, Find}
use Rattle.load_events.specs.Histories.{Follows, latest, Loads}
use Rattle.load_legal.specs.Names.{OneToOne, AsksKey}
use Rattle.load_legal.specs.Legal.{LoadsKey, IsContext, IsOutcome, MayFollow, Legal}
use Rattle.load_legal.proofs.Runs.{run_first, run_event, run_next, run_second}
use Rattle.load_legal.proofs.LoadedHandles.{FirstLoad, first_load, loads_self}
use Rattle.load_legal.proofs.LatestEvents.{asked_again}

module _ (sigs : List Key) (good : Key → List Key → Type 0) (refused : Key → LoadFault → Type 0) where
  module _ (names : Handle → Key → Type 0) where
    abbrev pub Lawful : List Event → Type 0
    Lawful es = Legal sigs good refused names es

    abbrev pub May : List Event → Event → Type 0
    May es e = MayFollow sigs good refused names es e

    pub legal_next : (es : List Event) (e : Event) → Lawful es → May es e → Lawful (es ++ e ∷ [])
    legal_next es e l m = record { one = l.one; entries = run_next May [] es e l.entries m }

    pub legal_event : (es : List Event) (e : Event) (later : List Event) → Lawful (es ++ e ∷ later) → May es e
    legal_event es e later l = run_event May es e later l.entries

    pub legal_first : (es later : List Event) → Lawful (es ++ later) → Lawful es
    legal_first es later l = record { one = l.one; entries = run_first May [] es later l.entries }

    outcome_at : (es : List Event) (n : ℕ) (h : Handle) (first : Bool) → May es (Done n (Loaded h first)) → (k : Key) × IsOutcome sigs good refused names es k (Loaded h first)
    outcome_at es n h first m = (m.2, m.5)

    at_load : (es : List Event) (h : Handle) → Lawful es → (f : FirstLoad h es) → (k : Key) × IsOutcome sigs good refused names f.before k (Loaded h f.first)
    at_load es h l f = outcome_at f.before f.caller h f.first (legal_event f.before (Done f.caller (Loaded h f.first)) f.later (subst (λ (x : List Event). Lawful x) f.is l))

    -- a handle that was loaded names a good key
    pub good_of : (es : List Event) (h : Handle) → Lawful es → Loads es h → (k : Key) × names h k × ((members : List Key) × good k members)
    good_of es h l has = let o = at_load es h l (first_load h es has) in (o.0, o.1.1, o.1.0)

    -- its first Done says so
    pub first_stands : (es : List Event) (h : Handle) → Lawful es → Loads es h → (before : List Event) × (n : ℕ) × (later : List Event) × (es ≡ before ++ Done n (Loaded h true) ∷ later)
    first_stands es h l has =
        let f = first_load h es has in let o = at_load es h l f in
        let says : f.first ≡ true = o.1.2.1 f.none in
        (f.before, f.caller, f.later, f.is ∙ ap (λ (b : Bool). f.before ++ Done f.caller (Loaded h b) ∷ f.later) says)

    pub first_once : (h : Handle) (n m : ℕ) (es fs gs : List Event) → Lawful (es ++ Done n (Loaded h true) ∷ (fs ++ Done m (Loaded h true) ∷ gs)) → ⊥
    first_once h n m es fs gs l =
        let second = run_second May es (Done n (Loaded h true)) fs (Done m (Loaded h true)) gs l.entries in
        let o = outcome_at (es ++ Done n (Loaded h true) ∷ fs) m h true second in
        o.1.2.0 refl (loads_self es n h true fs)

    pub asked_between : (n : ℕ) (a b : Answer) (es fs gs : List Event) → Lawful (es ++ Done n a ∷ (fs ++ Done n b ∷ gs)) → (context : Option Handle) × (sig : SigId) × (latest n fs ≡ Some (Ask n context sig))
    asked_between n a b es fs gs l =
        let second = run_second May es (Done n a) fs (Done n b) gs l.entries in
        (second.0, second.1, asked_again n a es fs second.0 second.1 second.3)

  module _ (names more : Handle → Key → Type 0) (within : (h : Handle) (k : Key) → names h k → more h k) (one : OneToOne more) where
    asks_more : (context : Option Handle) (sig : SigId) (k : Key) → AsksKey sigs names context sig k → AsksKey sigs more context sig k
    asks_more None sig k a = a
    asks_more (Some h) sig k a = (a.0, a.1, a.2, within h a.1 a.3, a.4)

    loads_key_more : (es : List Event) (k : Key) → LoadsKey names es k → LoadsKey more es k
    loads_key_more es k l = (l.0, within l.0 k l.1, l.2)

    context_more : (es : List Event) (context : Option Handle) → IsContext sigs good refused names es context → IsContext sigs good refused more es context
    context_more es None c = tt
    context_more es (Some h) c = let r = c.2 in (c.0, within h c.0 c.1, (r.0, r.1, loads_key_more es r.0 r.2, r.3, r.4))

    outcome_more : (es : List Event) (k : Key) (a : Answer) → IsOutcome sigs good refused names es k a → IsOutcome sigs good refused more es k a
    outcome_more es k (Refused fault) o = o
    outcome_more es k (Loaded h first) o = (o.0, within h k o.1, o.2)

    -- a loaded handle has its key already
    loads_key_back : (es : List Event) → Lawful names es → (k : Key) → LoadsKey more es k → LoadsKey names es k
    loads_key_back es l k has =
        let was = good_of names es has.0 l has.2 in
        let same : was.0 ≡ k = one.one_key has.0 was.0 k (within has.0 was.0 was.1) has.1 in
        (has.0, subst (λ (z : Key). names has.0 z) same was.1, has.2)

    follow_more : (es : List Event) → Lawful names es → (e : Event) → May names es e → May more es e
    follow_more es l (Ask n context sig) f = (context_more es context f.0, (f.1.0, asks_more context sig f.1.0 f.1.1))
    follow_more es l (Done n outcome) f = (f.0, f.1, f.2, f.3, asks_more f.0 f.1 f.2 f.4, outcome_more es f.2 outcome f.5)
    follow_more es l (Find n context sig found) f = (
      context_more es context f.0,
      (
        f.1.0,
        asks_more context sig f.1.0 f.1.1,
        ((λ t. loads_key_more es f.1.0 (f.1.2.0 t)), (λ x. f.1.2.1 (loads_key_back es l f.1.0 x))),
      ),
    )

    entries_more : (before es : List Event) → Lawful names before → Follows (May names) before es → Follows (May more) before es
    entries_more before [] l f = tt
    entries_more before (e ∷ es) l f = (follow_more before l e f.0, entries_more (before ++ e ∷ []) es (legal_next names before e l f.0) f.1)

    pub legal_more : (es : List Event) → Lawful names es → Lawful more es
    legal_more es l = record { one = one; entries = entries_more [] es (record { one = l.one; entries = tt }) l.entries }
