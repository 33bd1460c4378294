use Rattle.std.proofs.Common.{◌≡◌, ◌<◌}
use Rattle.word_board.specs.Boards.{IsSeatOf, IsSame, page_of, view_of}
use Rattle.word_board.specs.Views.{Grown, Known}
use Rattle.dict_slots.specs.Searches.{RowOthers}
use Rattle.dict_slots.proofs.seeking.seek_row.Given as goal

abbrev pub invariant-loop-word : goal.invariant-loop-word
invariant-loop-word g l = record {
  own : IsSame l.initial.seat l.seat × IsSeatOf l.board l.seat;
  grown : Grown (view_of l.initial.seat) (view_of l.seat);
  known : 0 < l.word → Known g.P.Meaning.may (view_of l.seat);
  kept : (view_of l.seat).kept ≡ (view_of l.initial.seat).kept;
  others : RowOthers (g.P.Page.cell_count (page_of l.board)) (view_of l.seat).seen l.cell l.fn.sig l.word;
}
