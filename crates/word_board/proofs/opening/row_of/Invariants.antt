use Rattle.std.proofs.Common.{◌≡◌, ◌<◌, ◌≤◌, ◌+◌, ℕ, length, vec_capacity, get_or}
use Rattle.std.specs.Slots.{slots_items}
use Rattle.word_board.proofs.opening.row_of.Given as goal

abbrev pub invariant-loop-i : goal.invariant-loop-i
invariant-loop-i l = record {
  long : length l.row.items ≡ l.i;
  room : l.count ≤ vec_capacity l.row;
  same : (k : ℕ) → k < l.i → get_or l.row.items k 0 ≡ get_or (slots_items l.closed.words) (k + 1) 0;
}
