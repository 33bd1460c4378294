use Rattle.std.proofs.Common.{◌≡◌, ◌<◌, ◌≢◌, length, map, slice_index, slice_set, refl, sym, ◌∙◌, arith, below_more, length-set, get_or-set_same, get_or-set_other}
use Rattle.std.specs.List.{range_with_len}
use Rattle.std.proofs.lemmas.List.{ext_get_or}
use Rattle.std.proofs.lemmas.List.FromFn.{length-map-range_with_len, get_or-map-range_with_len}
use Rattle.cli_tables.specs.Layout.{row_count, row_counts, present_in}
use Rattle.cli_tables.proofs.Sums.{sum_below_none, present_more, byte_small}
use Rattle.cli_tables.proofs.layout.read_counts.Goals as goal

pub loop-t-init : goal.loop-t-init
loop-t-init c =
    let none : present_in c.args.valid 0 ≡ 0 = sum_below_none _ in
    record { place = omega arith; small = omega arith; room = refl; read = λ k less. absurd (omega arith) }

pub loop-t-preserved : goal.loop-t-preserved
loop-t-preserved c =
    let more = present_more c.args.valid c.loop-t.t c.has_bit.result c.has_bit.ensures in
    let bit = byte_small c.has_bit.result in
    let room : c.loop-t.t < length c.loop-t.counts = omega arith in
    record {
      place = omega arith;
      small = omega arith;
      room = simp length-set c.loop-t.invariant.room;
      read = below_more (λ k. slice_index (slice_set c.loop-t.counts c.loop-t.t c.count_at.result) k ≡ row_count c.args.stream.now k) c.loop-t.t
          (λ k less. let other : k ≢ c.loop-t.t = omega arith in get_or-set_other c.loop-t.counts c.loop-t.t k c.count_at.result 0 other ∙ c.loop-t.invariant.read k less)
          (get_or-set_same c.loop-t.counts c.loop-t.t c.count_at.result 0 room ∙ c.count_at.ensures);
    }

pub returns : goal.returns
unfolding row_counts
returns c =
    let stream = c.args.stream.now in
    let done : c.loop-t.t ≡ 45 = omega arith in
    ext_get_or 0 c.loop-t.counts (map (row_count stream) (range_with_len 0 45))
    (c.loop-t.invariant.room ∙ sym (length-map-range_with_len (row_count stream) 0 45))
    (λ k less. let below : k < c.loop-t.t = omega arith in let near : k < 45 = omega arith in
    c.loop-t.invariant.read k below ∙ sym (get_or-map-range_with_len (row_count stream) 0 45 k k 0 near (omega arith)))
