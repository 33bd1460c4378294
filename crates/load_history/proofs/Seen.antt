-- What a pass knows of the events that it has seen.
use Rattle.std.proofs.Common.{◌≡◌, ℕ, ◌*◌, ◌≤◌, List, Some, sym, ap, ◌∙◌, subst, arith}
use Rattle.word_board.specs.Marks.{mark, Has}
use Rattle.word_board.specs.Places.{journal_place}
use Rattle.word_board.specs.Views.{Known}
use Rattle.word_board.specs.declared.view.Mark.{Mark}
use Rattle.word_board.specs.declared.view.View.{View}
use Rattle.load_events.specs.Events.{word_of, caller_of, IsNarrow}
use Rattle.load_events.specs.declared.event.Event.{Event}
use Rattle.load_events.proofs.Words.{same_event}
use Rattle.load_history.specs.Journal.{StandsAt, JournalRule}

module _ {P : Type 0} (may : P → List Mark → Mark → Type 0) (page : P) (cells : ℕ) (may_follow : List Mark → List Event → Event → Type 0) where
  abbrev pub Rules : Type 0
  Rules = (all : List Mark) (m : Mark) → may page all m → 33 * cells ≤ m.place → JournalRule cells all (may_follow all) m

  module _ (rules : Rules) (v : View P) (paged : v.page ≡ Some page) (known : Known may v) where
    -- what was seen at a place of the journal is an event's word, which its caller set
    pub seen_event : (place i word by : ℕ) → place ≡ journal_place cells i → Has v.seen (mark place word by) → (e : Event) × IsNarrow e × (word_of e ≡ word) × (by ≡ caller_of e)
    seen_event place i word by at has =
        let all = known.sound.0 in let reach = known.sound.1 in let lawful = reach.0 page paged in let m = mark place word by in
        let rule = rules all m (lawful.0 m (reach.1 m has)) (omega arith) in
        (rule.1, rule.3, sym rule.5, rule.6)

    -- so the event of that word stands there
    pub seen_stands : (place i word by : ℕ) → place ≡ journal_place cells i → Has v.seen (mark place word by) → (r : Event) → word_of r ≡ word → IsNarrow r → StandsAt cells v.seen i r
    seen_stands place i word by at has r same narrow =
        let e = seen_event place i word by at has in
        let is : e.0 ≡ r = same_event e.0 r e.1 narrow (e.2 ∙ sym same) in
        let set_by : by ≡ caller_of r = e.3 ∙ ap caller_of is in
        (narrow, subst (Has v.seen) (λ j. mark (at j) (sym same j) (set_by j)) has)
