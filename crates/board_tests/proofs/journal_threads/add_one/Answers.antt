use Rattle.std.proofs.Common.{sym, refl, ap}
use Rattle.word_board.specs.Places.{journal_place}
use Rattle.board_tests.proofs.journal_threads.add_one.Goals as goal

pub add-requires-clause-may : goal.add-requires-clause-may
add-requires-clause-may c = let f = c.requires.front in
    λ low high. (f.0, c.args.event, f.1, c.requires.narrow, ap (journal_place 1) (sym f.2), refl, c.requires.caller, tt)
