use Rattle.std.proofs.Common.{ℕ, ◌<◌}
use Rattle.image_rows.specs.Columns.{CellsPass}
use Rattle.image_rows.proofs.columns.columns_pass.Given as goal

abbrev pub invariant-loop-column : goal.invariant-loop-column
invariant-loop-column l = (column : ℕ) → column < l.column → CellsPass l.tables l.table column
