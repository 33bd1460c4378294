use Rattle.word_board.specs.Boards.{IsSeatOf, IsSame, page_of, view_of}
use Rattle.key_publish.specs.Moving.{Moved}
use Rattle.key_publish.specs.Published.{Raised}
use Rattle.key_publish.proofs.levels.raise_all.Given as goal

abbrev pub invariant-loop-member : goal.invariant-loop-member
invariant-loop-member g l = record {
  own : IsSame l.fn.seat l.seat × IsSeatOf l.board l.seat;
  moved : Moved (g.P.Page.cell_count (page_of l.board)) (view_of l.fn.seat) (view_of l.seat);
  set : Raised (g.P.Page.cell_count (page_of l.board)) (view_of l.seat).seen l.handles l.members l.member-index l.level;
}
