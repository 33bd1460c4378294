use Rattle.std.proofs.Common.{◌≡◌, ◌*◌, ◌<◌}
use Rattle.word_board.specs.Boards.{IsSeatOf, IsSame, page_of, view_of}
use Rattle.word_board.specs.Views.{Grown, Known}
use Rattle.dict_slots.specs.Slots.{OthersBefore}
use Rattle.dict_slots.proofs.seeking.seek_slot.Given as goal

abbrev pub invariant-loop-segment : goal.invariant-loop-segment
invariant-loop-segment g l = record {
  own : IsSame l.initial.seat l.seat × IsSeatOf l.board l.seat;
  grown : Grown (view_of l.initial.seat) (view_of l.seat);
  known : 0 < l.segment → Known g.P.Meaning.may (view_of l.seat);
  kept : (view_of l.seat).kept ≡ (view_of l.initial.seat).kept;
  others : OthersBefore (g.P.Page.cell_count (page_of l.board)) (view_of l.seat).seen l.canonical l.sig (32 * l.segment);
}
