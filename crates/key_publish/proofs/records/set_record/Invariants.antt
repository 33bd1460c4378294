use Rattle.std.proofs.Common.{◌-◌, ◌/◌, ◌<◌}
use Rattle.word_board.specs.Boards.{IsSeatOf, IsSame, page_of, view_of}
use Rattle.key_rows.specs.Rows.{IsRowOf}
use Rattle.key_publish.specs.Moving.{Moved}
use Rattle.key_publish.specs.Plans.{Shown}
use Rattle.key_publish.specs.Published.{HasRecordTo}
use Rattle.key_publish.proofs.records.set_record.Given as goal

abbrev pub invariant-loop-word : goal.invariant-loop-word
invariant-loop-word g l = record {
  own : IsSame l.initial.seat l.seat × IsSeatOf l.board l.seat;
  moved : Moved (g.P.Page.cell_count (page_of l.board)) (view_of l.initial.seat) (view_of l.seat);
  row : 0 < l.word → IsRowOf (g.P.Page.cell_count (page_of l.board)) (view_of l.seat).seen l.key.0 ((l.word - 1) / 32) l.cell.0;
  set : HasRecordTo (g.P.Page.cell_count (page_of l.board)) (view_of l.seat).seen (g.P.Rows.facts (page_of l.board))
      (Shown (g.P.Page.cell_count (page_of l.board)) (view_of l.initial.seat).seen l.handles) l.word l.handles l.member;
}
