use Rattle.std.proofs.Common.{rules, ◌∙◌}
use Rattle.word_board.specs.Places.{row_place}
use Rattle.word_board.specs.Boards.{view_of, page_of}
use Rattle.word_board.proofs.Growing.{grown_on}
use Rattle.dict_slots.proofs.Rowing.{set_here, row_next}
use Rattle.dict_slots.proofs.taking.take_row.Goals as goal

pub loop-word-preserved : goal.loop-word-preserved
loop-word-preserved g c = let i = c.loop-word.invariant in let s = c.settle.ensures in let w = view_of c.settle.new.seat in record {
  own = search rules;
  grown = grown_on (view_of c.args.seat.now) (view_of c.loop-word.seat) w i.grown s.view;
  known = λ low. s.known;
  kept = s.other c.if-settle-wanted.false ∙ i.kept;
  others = row_next (g.P.Page.cell_count (page_of c.args.board.now)) (view_of c.loop-word.seat).seen w.seen c.args.cell c.args.sig c.loop-word.word c.settle.result s.view.0 i.others s.word.0
      (set_here w.seen c.row_place-place.result (row_place (g.P.Page.cell_count (page_of c.args.board.now)) c.args.cell c.loop-word.word) c.settle.result s.word.1.0 c.row_place-place.ensures.place s.word.1.1) c.if-settle-wanted.false;
}
