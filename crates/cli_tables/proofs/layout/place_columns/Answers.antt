use Rattle.std.proofs.Common.{refl, arith, length-set}
use Rattle.cli_tables.specs.Layout.{widths}
use Rattle.cli_tables.specs.declared.schema.Column.TheVariants.{U8}
use Rattle.cli_tables.proofs.Columns.{widths_more, place_more}
use Rattle.cli_tables.proofs.layout.place_columns.Goals as goal

pub loop-k-init : goal.loop-k-init
unfolding widths
loop-k-init c = record { so_far = refl; small = omega arith; room = refl; placed = λ k less d. absurd (omega arith) }

pub loop-k-preserved : goal.loop-k-preserved
loop-k-preserved c =
    let counts = c.args.counts.now in
    let cs = c.args.columns.now in
    let more = widths_more counts c.args.sizes cs c.loop-k.k U8 c.loop-k-test.true in
    record {
      so_far = omega (arith, more, c.loop-k.invariant.so_far, c.from-offset.ensures, c.width_of-width.ensures.exact);
      small = omega (arith, c.width_of-width.ensures.small);
      room = simp length-set c.loop-k.invariant.room;
      placed = place_more counts c.args.sizes cs c.loop-k.k U8 c.loop-k.cells _ c.loop-k-test.true (omega arith) c.loop-k.invariant.so_far c.width_of-width.ensures.exact c.loop-k.invariant.placed;
    }
