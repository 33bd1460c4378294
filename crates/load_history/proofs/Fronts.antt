-- The events of a lawful board are one list, and one legal history.
use Rattle.std.proofs.Common.{◌≡◌, ℕ, ◌+◌, ◌*◌, ◌≤◌, List, [], ◌∷◌, ◌++◌, length, sym, refl, ap, ◌∙◌, subst, arith, length-append}
use Rattle.word_board.specs.Marks.{mark, Has, Within, Once}
use Rattle.word_board.specs.Places.{journal_place}
use Rattle.word_board.specs.declared.view.Mark.{Mark}
use Rattle.load_events.specs.Events.{word_of, caller_of}
use Rattle.load_events.specs.declared.event.Event.{Event}
use Rattle.load_events.proofs.Words.{same_event}
use Rattle.load_events.specs.Histories.{Follows}
use Rattle.load_history.specs.Journal.{StandsAt, ReadsFrom, IsFront, HasFront, JournalRule, reads_on}

module _ (cells : ℕ) (all : List Mark) where
  pub reads_snoc : (i : ℕ) (xs : List Event) (e : Event) → ReadsFrom cells all i xs → StandsAt cells all (i + length xs) e → ReadsFrom cells all i (xs ++ e ∷ [])
  reads_snoc i [] e r h = (subst (λ (n : ℕ). StandsAt cells all n e) (omega arith) h, tt)
  reads_snoc i (x ∷ xs) e r h = (r.0, reads_snoc (i + 1) xs e r.1 (let same : i + length (x ∷ xs) ≡ i + 1 + length xs = omega arith in subst (λ (n : ℕ). StandsAt cells all n e) same h))

  module _ (once : Once all) where
    -- a place has one event
    pub here : (i : ℕ) (d e : Event) → StandsAt cells all i d → StandsAt cells all i e → d ≡ e
    here i d e a b = same_event d e a.0 b.0 (ap (λ (m : Mark). m.word) (once (mark (journal_place cells i) (word_of d) (caller_of d)) (mark (journal_place cells i) (word_of e) (caller_of e)) a.1 b.1 refl))

    -- of two runs from one place the longer begins with the shorter
    pub reads_on_more : (i : ℕ) (xs ys : List Event) → length xs ≤ length ys → ReadsFrom cells all i xs → ReadsFrom cells all i ys → (rest : List Event) × (ys ≡ xs ++ rest)
    reads_on_more i [] ys n r s = (ys, refl)
    reads_on_more i (x ∷ xs) [] n r s = absurd (omega arith)
    reads_on_more i (x ∷ xs) (y ∷ ys) n r s =
        let e = here i y x s.0 r.0 in let es = reads_on_more (i + 1) xs ys (omega arith) r.1 s.1 in
        (es.0, λ j. e j ∷ es.1 j)

    pub reads_one : (i : ℕ) (xs ys : List Event) → length xs ≡ length ys → ReadsFrom cells all i xs → ReadsFrom cells all i ys → xs ≡ ys
    reads_one i [] [] n r s = refl
    reads_one i [] (y ∷ ys) n r s = absurd (omega arith)
    reads_one i (x ∷ xs) [] n r s = absurd (omega arith)
    reads_one i (x ∷ xs) (y ∷ ys) n r s = let e = here i x y r.0 s.0 in let es = reads_one (i + 1) xs ys (omega arith) r.1 s.1 in λ j. e j ∷ es j

    module _ (may_follow : List Event → Event → Type 0) (rules : (m : Mark) → Has all m → 33 * cells ≤ m.place → JournalRule cells all may_follow m) where
      -- what stands at a place is an event that may come next after those at all lower places
      pub stood : (m : Mark) (i : ℕ) → Has all m → m.place ≡ journal_place cells i → (es : List Event) × (e : Event) × IsFront cells all es × StandsAt cells all i e × (length es ≡ i) × (m ≡ mark (journal_place cells i) (word_of e) (caller_of e)) × may_follow es e
      stood m i has at =
          let rule = rules m has (omega arith) in let place = rule.4 in
          let long : length rule.0 ≡ i = omega arith in
          let same : m ≡ mark (journal_place cells i) (word_of rule.1) (caller_of rule.1) = λ j. mark (at j) (rule.5 j) (rule.6 j) in
          (rule.0, rule.1, rule.2, (rule.3, subst (Has all) same has), long, same, rule.7)

      follows_from : (before es : List Event) → IsFront cells all before → ReadsFrom cells all (length before) es → Follows may_follow before es
      follows_from before [] r s = tt
      follows_from before (e ∷ es) r s =
          let rule = stood (mark (journal_place cells (length before)) (word_of e) (caller_of e)) (length before) s.0.1 refl in
          let same : rule.0 ≡ before = reads_one 0 rule.0 before rule.4 rule.2 r in
          let is : rule.1 ≡ e = here (length before) rule.1 e rule.3 s.0 in
          let long : length (before ++ e ∷ []) ≡ length before + 1 = length-append before (e ∷ []) in (
            subst (λ (x : List Event × Event). may_follow x.0 x.1) (λ j. (same j, is j)) rule.6,
            follows_from (before ++ e ∷ []) es (reads_snoc 0 before e r (subst (λ (n : ℕ). StandsAt cells all n e) (omega arith) s.0)) (subst (λ (n : ℕ). ReadsFrom cells all n es) (sym long) s.1),
          )

      pub legal : (es : List Event) → IsFront cells all es → Follows may_follow [] es
      legal es r = follows_from [] es tt r

-- one event more was seen, behind the front
pub front_next : (cells : ℕ) (old new : List Mark) (count : ℕ) (e : Event) → Within old new → HasFront cells old count → StandsAt cells new count e → HasFront cells new (count + 1)
front_next cells old new count e on f s = (
  f.0 ++ e ∷ [],
  reads_snoc cells new 0 f.0 e (reads_on cells old new on 0 f.0 f.1) (let long = f.2 in let same : count ≡ 0 + length f.0 = omega arith in subst (λ (n : ℕ). StandsAt cells new n e) same s),
  length-append f.0 (e ∷ []) ∙ ap (λ (n : ℕ). n + 1) f.2,
)
