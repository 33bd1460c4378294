use Rattle.std.proofs.Common.{◌≡◌, ◌<◌}
use Rattle.word_board.specs.Boards.{IsSeatOf, IsSame, view_of}
use Rattle.word_board.specs.Views.{Grown, Known}
use Rattle.node_set.specs.Probing.{Before}
use Rattle.node_set.proofs.probing.put.Given as goal

abbrev pub invariant-loop-k : goal.invariant-loop-k
invariant-loop-k g l = record {
  own : IsSame l.initial.seat l.seat × IsSeatOf l.board l.seat;
  grown : Grown (view_of l.initial.seat) (view_of l.seat);
  known : 0 < l.k → Known g.P.Meaning.may (view_of l.seat);
  kept : (view_of l.seat).kept ≡ (view_of l.initial.seat).kept;
  before : Before l.cells (view_of l.seat).seen l.word l.k;
}
