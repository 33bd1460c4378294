use Rattle.std.proofs.Common.{◌≡◌, ℕ, ◌+◌, ◌<◌, get_or, sym, subst, List, arith}
use Rattle.std.specs.Slots.{slots_items}
use Rattle.std.proofs.lemmas.Grind.{common_steps}
use Rattle.word_board.proofs.Closing.{row_snoc}
use Rattle.word_board.proofs.opening.row_of.Goals as goal

pub loop-i-preserved : goal.loop-i-preserved
loop-i-preserved c = record {
  long = grind (arith, common_steps);
  room = grind (arith, common_steps);
  same = subst (λ (l : List ℕ). (k : ℕ) → k < c.loop-i.i + 1 → get_or l k 0 ≡ get_or (slots_items c.args.closed.now.words) (k + 1) 0) (sym c.push_reserved.ensures.items)
      (row_snoc _ _ _ _ c.loop-i.invariant.long c.loop-i.invariant.same c.word.ensures);
}
