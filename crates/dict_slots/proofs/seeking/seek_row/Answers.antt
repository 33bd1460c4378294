use Rattle.std.proofs.Common.{rules, ℕ, ◌∙◌, subst, arith}
use Rattle.word_board.specs.Marks.{mark, Has}
use Rattle.word_board.specs.Places.{row_place}
use Rattle.word_board.specs.Boards.{view_of, page_of}
use Rattle.word_board.proofs.Growing.{sees, grown_on}
use Rattle.dict_slots.proofs.Rowing.{set_here, row_others_on, row_next, free_here}
use Rattle.dict_slots.proofs.seeking.seek_row.Goals as goal

pub returns-then-found-wanted-clause-view : goal.returns-then-found-wanted-clause-view
returns-then-found-wanted-clause-view g c = let i = c.loop-word.invariant in let is = c.if-found-wanted.true in
    let t = c.look-found.ensures.seen (λ z. absurd (omega arith)) in
    let s = sees (view_of c.loop-word.seat) (view_of c.look-found.new.seat) (mark c.row_place-place.result c.look-found.result t.0) t.1 in
    (grown_on (view_of c.args.seat.now) (view_of c.loop-word.seat) (view_of c.look-found.new.seat) i.grown s.1, s.2 ∙ i.kept)

pub returns-then-found-wanted-clause-ends : goal.returns-then-found-wanted-clause-ends
returns-then-found-wanted-clause-ends g c = let i = c.loop-word.invariant in let is = c.if-found-wanted.true in let w = view_of c.look-found.new.seat in
    let t = c.look-found.ensures.seen (λ z. absurd (omega arith)) in let at = c.row_place-place.ensures.place in
    let s = sees (view_of c.loop-word.seat) w (mark c.row_place-place.result c.look-found.result t.0) t.1 in (
      c.loop-word-test.true,
      row_others_on (g.P.Page.cell_count (page_of c.args.board.now)) (view_of c.loop-word.seat).seen w.seen c.args.cell c.args.sig c.loop-word.word s.1.0 i.others,
      (t.0, subst (λ (x : ℕ × ℕ). Has w.seen (mark x.0 x.1 t.0)) (λ j. (at j, is j)) s.0),
    )

pub returns-then-found-eq0-clause-ends : goal.returns-then-found-eq0-clause-ends
returns-then-found-eq0-clause-ends g c = let n = c.look-found.ensures.none c.if-found-eq0.true in
    free_here (g.P.Page.cell_count (page_of c.args.board.now)) g.P.Meaning.may (view_of c.loop-word.seat) (view_of c.look-found.new.seat) c.args.cell c.args.sig c.loop-word.word c.row_place-place.result
    n.0 c.row_place-place.ensures.place c.loop-word-test.true c.loop-word.invariant.others n.1

pub loop-word-preserved : goal.loop-word-preserved
loop-word-preserved g c = let i = c.loop-word.invariant in let z = c.if-found-eq0.false in let w = view_of c.look-found.new.seat in
    let t = c.look-found.ensures.seen z in
    let s = sees (view_of c.loop-word.seat) w (mark c.row_place-place.result c.look-found.result t.0) t.1 in
    record {
      own = search rules;
      grown = grown_on (view_of c.args.seat.now) (view_of c.loop-word.seat) w i.grown s.1;
      known = λ low. c.look-found.ensures.known;
      kept = s.2 ∙ i.kept;
      others = row_next (g.P.Page.cell_count (page_of c.args.board.now)) (view_of c.loop-word.seat).seen w.seen c.args.cell c.args.sig c.loop-word.word c.look-found.result s.1.0 i.others (omega arith)
          (set_here w.seen c.row_place-place.result (row_place (g.P.Page.cell_count (page_of c.args.board.now)) c.args.cell c.loop-word.word) c.look-found.result t.0 c.row_place-place.ensures.place s.0) c.if-found-wanted.false;
    }
