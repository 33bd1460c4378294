use Rattle.std.proofs.Common.{◌≡◌, ℕ, ◌<◌, ◌^◌, length, slice_index}
use Rattle.image_write.specs.Drafts.{rows}
use Rattle.image_write.proofs.layout.counts_of.Given as goal

abbrev pub invariant-loop-t : goal.invariant-loop-t
invariant-loop-t l = record {
  room : length l.counts ≡ 45;
  counted : (k : ℕ) → k < l.t → slice_index l.counts k ≡ rows l.draft k;
  few : (k : ℕ) → k < l.t → rows l.draft k < 2 ^ 31;
}
