use Rattle.std.proofs.Common.{rules, arith}
use Rattle.word_board.proofs.Keeping.{recalls}
use Rattle.word_board.proofs.board.Board.recall.Goals as goal

pub load-requires : goal.load-requires
load-requires g c = (search rules, omega (arith, c.args.self.now.wide), recalls g.P.Meaning.may g.P.Meaning.stays _ _ _ _ _)
