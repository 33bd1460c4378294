use Rattle.std.proofs.Common.{rules, sym, ap, subst, arith}
use Rattle.word_board.specs.Marks.{mark}
use Rattle.word_board.specs.Views.{number_of}
use Rattle.word_board.proofs.Keeping.{puts_known}
use Rattle.word_board.proofs.board.Board.set.Goals as goal

pub compare_exchange-requires : goal.compare_exchange-requires
compare_exchange-requires g c = let same = ap (λ p. p.page) c.args.self.now.about in (
  search rules,
  omega (arith, c.requires.inside, c.args.self.now.wide, c.args.self.now.sized),
  puts_known g.P.Meaning.may g.P.Meaning.stays _ _ _ _ _ _ _ c.args.seat.now.live (omega (arith, c.requires.inside, c.args.self.now.sized, ap (λ p. p.places) c.args.self.now.about)) c.requires.word
      (subst (λ (p : g.row.P.Denot). g.P.Meaning.may p c.args.seat.now.place.me.0.seen (mark c.args.place c.args.word (number_of c.args.seat.now.place.me.0))) (sym same) c.requires.may),
)
