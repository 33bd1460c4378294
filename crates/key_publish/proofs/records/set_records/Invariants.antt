use Rattle.word_board.specs.Boards.{IsSeatOf, IsSame, page_of, view_of}
use Rattle.key_publish.specs.Moving.{Moved}
use Rattle.key_publish.specs.Plans.{Shown}
use Rattle.key_publish.proofs.Walks.{Recorded}
use Rattle.key_publish.proofs.records.set_records.Given as goal

abbrev pub invariant-loop-member : goal.invariant-loop-member
invariant-loop-member g l = record {
  own : IsSame l.fn.seat l.seat × IsSeatOf l.board l.seat;
  moved : Moved (g.P.Page.cell_count (page_of l.board)) (view_of l.fn.seat) (view_of l.seat);
  set : Recorded (g.P.Page.cell_count (page_of l.board)) (view_of l.seat).seen (g.P.Rows.facts (page_of l.board))
      (Shown (g.P.Page.cell_count (page_of l.board)) (view_of l.fn.seat).seen l.handles) l.handles l.members l.member-index;
}
