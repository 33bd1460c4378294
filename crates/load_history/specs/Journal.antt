-- The journal: events at places, each set after all lower ones.
use Rattle.std.specs.Prelude.{◌≡◌, ℕ, ◌+◌, List, [], ◌∷◌, ◌++◌, length}
use Rattle.word_board.specs.Marks.{mark, Has, Within}
use Rattle.word_board.specs.Places.{journal_place}
use Rattle.word_board.specs.declared.view.Mark.{Mark}
use Rattle.load_events.specs.Events.{word_of, caller_of, IsNarrow}
use Rattle.load_events.specs.declared.event.Event.{Event}

module _ (cells : ℕ) (all : List Mark) where
  -- the event stands at the i-th place of the journal, set by its caller
  abbrev pub StandsAt : ℕ → Event → Type 0
  StandsAt i e = IsNarrow e × Has all (mark (journal_place cells i) (word_of e) (caller_of e))

  -- the events stand at the places from i on
  abbrev pub ReadsFrom : ℕ → List Event → Type 0
  ReadsFrom i [] = Unit {0}
  ReadsFrom i (e ∷ es) = StandsAt i e × ReadsFrom (i + 1) es

  -- a front: the events stand at the first places
  abbrev pub IsFront : List Event → Type 0
  IsFront es = ReadsFrom 0 es

  -- events stand at so many places, the first ones
  abbrev pub HasFront : ℕ → Type 0
  HasFront count = (es : List Event) × IsFront es × (length es ≡ count)

  -- the mark is that of an event behind a front, which may come next after it
  abbrev pub JournalRule : (List Event → Event → Type 0) → Mark → Type 0
  JournalRule may_follow m = (es : List Event) × (e : Event) × IsFront es × IsNarrow e × (m.place ≡ journal_place cells (length es)) × (m.word ≡ word_of e) × (m.by ≡ caller_of e) × may_follow es e

-- these still hold when more words are set

module _ (cells : ℕ) (xs ys : List Mark) (on : Within xs ys) where
  abbrev pub reads_on : (i : ℕ) (es : List Event) → ReadsFrom cells xs i es → ReadsFrom cells ys i es
  reads_on i [] r = r
  reads_on i (e ∷ es) r = ((r.0.0, on (mark (journal_place cells i) (word_of e) (caller_of e)) r.0.1), reads_on (i + 1) es r.1)

  -- where what may follow still may
  abbrev pub journal_rule_on : (before after : List Event → Event → Type 0) → ((es : List Event) (e : Event) → before es e → after es e) → (m : Mark) → JournalRule cells xs before m → JournalRule cells ys after m
  journal_rule_on before after stays m r = (r.0, r.1, reads_on 0 r.0 r.2, r.3, r.4, r.5, r.6, stays r.0 r.1 r.7)
