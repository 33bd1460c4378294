use Rattle.std.proofs.Common.{◌≡◌, vec_len}
use Rattle.word_board.specs.Boards.{IsSeatOf}
use Rattle.board_tests.proofs.node_threads.put_all.Given as goal

abbrev pub invariant-loop-i : goal.invariant-loop-i
invariant-loop-i l = record {
  own : IsSeatOf l.board l.seat;
  long : vec_len l.told ≡ 1000;
}
