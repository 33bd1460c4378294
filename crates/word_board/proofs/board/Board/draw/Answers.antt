use Rattle.std.proofs.Common.{rules, arith}
use Rattle.word_board.proofs.Keeps.{counts, numbers_one, may_draw}
use Rattle.word_board.proofs.board.Board.draw.Goals as goal

pub load-found-requires : goal.load-found-requires
load-found-requires g c = (search rules, omega (arith, c.args.self.now.wide), counts g.P.Meaning.may g.P.Meaning.stays _ _ _ _ _)

pub fetch_add-found-requires : goal.fetch_add-found-requires
fetch_add-found-requires g c = let t = may_draw c.args.seat.now.place.me.0 _ _ c.load-found.ensures.2.1 c.args.seat.now.live (c.load-found.ensures.2.3 (search rules)) in
    (search rules, omega (arith, c.args.self.now.wide), numbers_one g.P.Meaning.may g.P.Meaning.stays _ _ _ _ _ t.0 t.1)
