use Rattle.word_board.specs.Boards.{IsSeatOf, view_of}
use Rattle.node_set.specs.Keys.{Stands}
use Rattle.node_set.specs.declared.node.Node.TheVariants.{Head}
use Rattle.board_tests.proofs.slots.fills_layout.Given as goal

abbrev pub invariant-loop-sig : goal.invariant-loop-sig
invariant-loop-sig l = record {
  own : IsSeatOf l.board l.seat;
  key : Stands 128 (view_of l.seat).seen l.key.0 (Head (record { 0 = 0 }));
}
