use Rattle.std.proofs.Common.{rules, arith}
use Rattle.word_board.proofs.Keeps.{gives_up}
use Rattle.word_board.proofs.board.Board.lose.Goals as goal

pub load-requires : goal.load-requires
load-requires g c = (search rules, omega (arith, c.args.self.now.wide), gives_up g.P.Meaning.may g.P.Meaning.stays _ _ _ _ _ c.requires.pending)
