use Rattle.std.proofs.Common.{arith}
use Rattle.cli_tables.proofs.Counts.{length-row_counts}
use Rattle.cli_tables.proofs.Placing.{placed}
use Rattle.cli_tables.proofs.SchemaFacts.{short}
use Rattle.cli_tables.proofs.layout.place_table.Goals as goal

pub place_columns-row_width-requires : goal.place_columns-row_width-requires
place_columns-row_width-requires c = rw c.columns_of.ensures (short c.args.t)

pub bounds-counts-t : goal.bounds-counts-t
bounds-counts-t c = rw c.requires.counts (omega (arith, length-row_counts c.args.stream.now))

pub returns-clause-place : goal.returns-clause-place
returns-clause-place c =
    placed c.args.stream.now c.args.counts.now c.heap_sizes.result c.columns_of.result.now c.args.t c.args.start _ _
    c.requires.counts c.heap_sizes.ensures c.columns_of.ensures c.requires.start c.requires.known
    c.place_columns-row_width.ensures.width c.place_columns-row_width.ensures.places
