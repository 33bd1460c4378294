use Rattle.std.proofs.Common.{◌≡◌, ◌+◌, ◌*◌, ◌<◌, ◌≤◌, ℕ, length, slice_index}
use Rattle.cli_tables.specs.Layout.{present_in, row_count}
use Rattle.cli_tables.proofs.layout.read_counts.Given as goal

abbrev pub invariant-loop-t : goal.invariant-loop-t
invariant-loop-t l = record {
  place : l.at ≡ 24 + 4 * present_in l.valid l.t;
  small : l.at ≤ 24 + 4 * l.t;
  room : length l.counts ≡ 45;
  read : (k : ℕ) → k < l.t → slice_index l.counts k ≡ row_count l.stream k;
}
