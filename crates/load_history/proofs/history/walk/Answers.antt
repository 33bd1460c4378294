use Rattle.word_board.specs.Marks.{mark}
use Rattle.word_board.specs.Boards.{view_of, page_of}
use Rattle.word_board.proofs.Growing.{sees}
use Rattle.load_history.proofs.Fronts.{front_next}
use Rattle.load_history.proofs.Seen.{seen_event, seen_stands}
use Rattle.load_history.proofs.history.walk.Goals as goal

pub of_word-requires : goal.of_word-requires
of_word-requires g c = let page = page_of c.args.board.now in let t = c.look-word.ensures.seen c.if-word-eq0.false in
    let s = sees (view_of c.args.seat.now) (view_of c.look-word.new.seat) (mark c.journal_place-at.result c.look-word.result t.0) t.1 in
    let e = seen_event g.P.Meaning.may page (g.P.Page.cell_count page) (g.P.Journal.may_follow page) (λ all m may high. g.met.P.Journal.journal_rule page all m may high)
    (view_of c.look-word.new.seat) c.look-word.ensures.own.1.1 c.look-word.ensures.known c.journal_place-at.result c.args.place c.look-word.result t.0 c.journal_place-at.ensures.place s.0 in
    (e.0, e.1, e.2)

pub returns-clause-view : goal.returns-clause-view
returns-clause-view g c = let t = c.look-word.ensures.seen c.if-word-eq0.false in
    let s = sees (view_of c.args.seat.now) (view_of c.look-word.new.seat) (mark c.journal_place-at.result c.look-word.result t.0) t.1 in
    (s.1, s.2)

pub returns-clause-event : goal.returns-clause-event
returns-clause-event g c = let page = page_of c.args.board.now in let t = c.look-word.ensures.seen c.if-word-eq0.false in
    let s = sees (view_of c.args.seat.now) (view_of c.look-word.new.seat) (mark c.journal_place-at.result c.look-word.result t.0) t.1 in (
      seen_stands g.P.Meaning.may page (g.P.Page.cell_count page) (g.P.Journal.may_follow page) (λ all m may high. g.met.P.Journal.journal_rule page all m may high)
          (view_of c.look-word.new.seat) c.look-word.ensures.own.1.1 c.look-word.ensures.known c.journal_place-at.result c.args.place c.look-word.result t.0 c.journal_place-at.ensures.place s.0 c.of_word.result c.of_word.ensures.0 c.of_word.ensures.1,
      c.look-word.ensures.known,
    )

pub returns-clause-longer : goal.returns-clause-longer
returns-clause-longer g c = let page = page_of c.args.board.now in let cells = g.P.Page.cell_count page in let t = c.look-word.ensures.seen c.if-word-eq0.false in
    let s = sees (view_of c.args.seat.now) (view_of c.look-word.new.seat) (mark c.journal_place-at.result c.look-word.result t.0) t.1 in
    λ front. front_next cells (view_of c.args.seat.now).seen (view_of c.look-word.new.seat).seen c.args.place c.of_word.result s.1.0 front
    (seen_stands g.P.Meaning.may page cells (g.P.Journal.may_follow page) (λ all m may high. g.met.P.Journal.journal_rule page all m may high) (view_of c.look-word.new.seat) c.look-word.ensures.own.1.1 c.look-word.ensures.known
    c.journal_place-at.result c.args.place c.look-word.result t.0 c.journal_place-at.ensures.place s.0 c.of_word.result c.of_word.ensures.0 c.of_word.ensures.1)
