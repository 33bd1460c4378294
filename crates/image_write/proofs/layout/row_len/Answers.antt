use Rattle.std.proofs.Common.{◌≤◌, length, refl, arith}
use Rattle.cli_tables.specs.Layout.{widths}
use Rattle.cli_tables.specs.declared.schema.Column.TheVariants.{U8}
use Rattle.cli_tables.proofs.Columns.{widths_more}
use Rattle.cli_tables.proofs.SchemaFacts.{short}
use Rattle.image_write.proofs.layout.row_len.Goals as goal

pub loop-column-init : goal.loop-column-init
unfolding widths
loop-column-init c = record { so_far = refl; small = omega arith }

pub loop-column-preserved : goal.loop-column-preserved
loop-column-preserved c =
    let more = widths_more c.args.counts.now c.args.heap_bits c.columns_of-columns.result.now c.loop-column.column-index U8 c.loop-column-test.true in
    record {
      so_far = omega (arith, more, c.loop-column.invariant.so_far, c.width_of.ensures.exact);
      small = omega (arith, c.width_of.ensures.small);
    }

pub returns-clause-small : goal.returns-clause-small
returns-clause-small c =
    let few : length c.columns_of-columns.result.now ≤ 9 = rw c.columns_of-columns.ensures (short c.args.table) in
    omega arith
