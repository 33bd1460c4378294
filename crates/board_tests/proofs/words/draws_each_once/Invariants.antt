use Rattle.word_board.specs.Boards.{IsSeatOf}
use Rattle.board_tests.proofs.words.draws_each_once.Given as goal

abbrev pub invariant-loop-i : goal.invariant-loop-i
invariant-loop-i l = IsSeatOf l.board l.seat
