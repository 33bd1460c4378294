use Rattle.std.proofs.Common.{◌≡◌, ◌++◌, ◌∷◌, [], sym, ap, ◌∙◌, subst}
use Rattle.word_board.specs.Marks.{mark, Has}
use Rattle.word_board.specs.Places.{journal_place}
use Rattle.word_board.specs.Views.{number_of}
use Rattle.word_board.specs.Boards.{view_of, page_of}
use Rattle.word_board.specs.declared.view.Mark.{Mark}
use Rattle.word_board.proofs.Growing.{sees, sets}
use Rattle.load_events.specs.Events.{word_of, caller_of}
use Rattle.load_history.proofs.Fronts.{front_next}
use Rattle.load_history.proofs.Seen.{seen_event, seen_stands}
use Rattle.load_history.proofs.history.add.Goals as goal

pub returns-then-old-eq0-clause-view : goal.returns-then-old-eq0-clause-view
returns-then-old-eq0-clause-view g c =
    (sets (view_of c.args.seat.now) (view_of c.set-old.new.seat) (mark c.journal_place-at.result c.word.result (number_of (view_of c.args.seat.now))) (c.set-old.ensures.set c.if-old-eq0.true)).1

pub returns-then-old-eq0-clause-added : goal.returns-then-old-eq0-clause-added
returns-then-old-eq0-clause-added g c = let cells = g.P.Page.cell_count (page_of c.args.board.now) in let v = view_of c.args.seat.now in let w = view_of c.set-old.new.seat in
    let s = sets v w (mark c.journal_place-at.result c.word.result (number_of v)) (c.set-old.ensures.set c.if-old-eq0.true) in
    let is : mark c.journal_place-at.result c.word.result (number_of v) ≡ mark (journal_place cells c.args.place) (word_of c.args.event) (caller_of c.args.event) =
    λ i. mark (c.journal_place-at.ensures.place i) (c.word.ensures.0 i) (sym c.requires.caller i) in
    ((c.requires.narrow, subst (Has w.seen) is s.0), s.2 ∙ ap (λ (m : Mark). v.kept ++ m ∷ []) is)

pub of_word-requires : goal.of_word-requires
of_word-requires g c = let page = page_of c.args.board.now in let t = c.set-old.ensures.seen c.if-old-eq0.false in
    let s = sees (view_of c.args.seat.now) (view_of c.set-old.new.seat) (mark c.journal_place-at.result c.set-old.result t.0) t.1 in
    let e = seen_event g.P.Meaning.may page (g.P.Page.cell_count page) (g.P.Journal.may_follow page) (λ all m may high. g.met.P.Journal.journal_rule page all m may high)
    (view_of c.set-old.new.seat) c.set-old.ensures.own.1.1 c.set-old.ensures.known c.journal_place-at.result c.args.place c.set-old.result t.0 c.journal_place-at.ensures.place s.0 in
    (e.0, e.1, e.2)

pub returns-clause-view : goal.returns-clause-view
returns-clause-view g c = let t = c.set-old.ensures.seen c.if-old-eq0.false in
    (sees (view_of c.args.seat.now) (view_of c.set-old.new.seat) (mark c.journal_place-at.result c.set-old.result t.0) t.1).1

pub returns-clause-stood : goal.returns-clause-stood
returns-clause-stood g c = let page = page_of c.args.board.now in let t = c.set-old.ensures.seen c.if-old-eq0.false in
    let s = sees (view_of c.args.seat.now) (view_of c.set-old.new.seat) (mark c.journal_place-at.result c.set-old.result t.0) t.1 in (
      seen_stands g.P.Meaning.may page (g.P.Page.cell_count page) (g.P.Journal.may_follow page) (λ all m may high. g.met.P.Journal.journal_rule page all m may high)
          (view_of c.set-old.new.seat) c.set-old.ensures.own.1.1 c.set-old.ensures.known c.journal_place-at.result c.args.place c.set-old.result t.0 c.journal_place-at.ensures.place s.0 c.of_word.result c.of_word.ensures.0 c.of_word.ensures.1,
      s.2,
    )

pub returns-clause-longer : goal.returns-clause-longer
returns-clause-longer g c = let page = page_of c.args.board.now in let cells = g.P.Page.cell_count page in let t = c.set-old.ensures.seen c.if-old-eq0.false in
    let s = sees (view_of c.args.seat.now) (view_of c.set-old.new.seat) (mark c.journal_place-at.result c.set-old.result t.0) t.1 in
    front_next cells (view_of c.args.seat.now).seen (view_of c.set-old.new.seat).seen c.args.place c.of_word.result s.1.0 c.requires.front
    (seen_stands g.P.Meaning.may page cells (g.P.Journal.may_follow page) (λ all m may high. g.met.P.Journal.journal_rule page all m may high) (view_of c.set-old.new.seat) c.set-old.ensures.own.1.1 c.set-old.ensures.known
    c.journal_place-at.result c.args.place c.set-old.result t.0 c.journal_place-at.ensures.place s.0 c.of_word.result c.of_word.ensures.0 c.of_word.ensures.1)

pub returns-then-old-eq0-clause-longer : goal.returns-then-old-eq0-clause-longer
returns-then-old-eq0-clause-longer g c = let cells = g.P.Page.cell_count (page_of c.args.board.now) in let v = view_of c.args.seat.now in let w = view_of c.set-old.new.seat in
    let s = sets v w (mark c.journal_place-at.result c.word.result (number_of v)) (c.set-old.ensures.set c.if-old-eq0.true) in
    let is : mark c.journal_place-at.result c.word.result (number_of v) ≡ mark (journal_place cells c.args.place) (word_of c.args.event) (caller_of c.args.event) =
    λ i. mark (c.journal_place-at.ensures.place i) (c.word.ensures.0 i) (sym c.requires.caller i) in
    front_next cells v.seen w.seen c.args.place c.args.event s.1.0 c.requires.front (c.requires.narrow, subst (Has w.seen) is s.0)
