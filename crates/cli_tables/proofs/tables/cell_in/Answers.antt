use Rattle.cli_tables.proofs.CellLemmas.{known}
use Rattle.cli_tables.proofs.tables.cell_in.Goals as goal

pub bounds-places-table : goal.bounds-places-table
bounds-places-table c = known c.args.table c.args.column c.requires.cell.column

pub read_cell-requires-clause-place : goal.read_cell-requires-clause-place
read_cell-requires-clause-place c = c.requires.places.each c.args.table _ (known c.args.table c.args.column c.requires.cell.column)
