use Rattle.std.proofs.Common.{◌≡◌, vec_len}
use Rattle.word_board.specs.Boards.{IsSeatOf, view_of}
use Rattle.node_set.specs.Keys.{Stands}
use Rattle.node_set.specs.declared.node.Node.TheVariants.{Head}
use Rattle.board_tests.proofs.slots.take_all.Given as goal

abbrev pub invariant-loop-i : goal.invariant-loop-i
invariant-loop-i l = record {
  own : IsSeatOf l.board l.seat;
  key : Stands 128 (view_of l.seat).seen l.key.0 (Head (record { 0 = 0 }));
  long : vec_len l.told ≡ 200;
}
