use Rattle.word_board.specs.Boards.{IsSeatOf}
use Rattle.board_tests.proofs.nodes.fills.Given as goal

abbrev pub invariant-loop-definition : goal.invariant-loop-definition
invariant-loop-definition l = IsSeatOf l.board l.seat
