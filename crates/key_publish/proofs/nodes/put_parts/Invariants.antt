use Rattle.std.proofs.Common.{◌≡◌, ◌≤◌, length, vec_capacity}
use Rattle.word_board.specs.Boards.{IsSeatOf, IsSame, page_of, view_of}
use Rattle.key_publish.specs.Moving.{Moved}
use Rattle.key_publish.specs.Plans.{Spelled}
use Rattle.key_publish.proofs.nodes.put_parts.Given as goal

abbrev pub invariant-loop : goal.invariant-loop
invariant-loop g l = record {
  own : IsSame l.initial.seat l.seat × IsSeatOf l.board l.seat;
  moved : Moved (g.P.Page.cell_count (page_of l.board)) (view_of l.initial.seat) (view_of l.seat);
  long : length l.handles.items ≡ l.counter;
  room : length l.parts ≤ vec_capacity l.handles;
  spelled : Spelled (g.P.Page.cell_count (page_of l.board)) (view_of l.seat).seen l.parts l.handles.items;
}
