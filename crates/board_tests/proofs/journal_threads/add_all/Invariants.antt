use Rattle.std.proofs.Common.{◌≡◌, ◌≤◌}
use Rattle.word_board.specs.Views.{number_of}
use Rattle.word_board.specs.Boards.{IsSeatOf, view_of}
use Rattle.load_history.specs.Journal.{HasFront}
use Rattle.board_tests.proofs.journal_threads.add_all.Given as goal

abbrev pub invariant-loop-place : goal.invariant-loop-place
invariant-loop-place l = record {
  own : IsSeatOf l.board l.seat;
  caller : number_of (view_of l.seat) ≡ l.number;
  few : l.sig ≤ 100;
  front : HasFront 1 (view_of l.seat).seen l.place;
}
