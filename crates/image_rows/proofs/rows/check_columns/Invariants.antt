use Rattle.std.proofs.Common.{◌≡◌, Ok}
use Rattle.clr_base.specs.Checks.{first_fault, each}
use Rattle.image_rows.specs.Rows.{cell_checks}
use Rattle.image_rows.proofs.rows.check_columns.Given as goal

abbrev pub invariant-loop-column : goal.invariant-loop-column
invariant-loop-column l = first_fault (each l.column (cell_checks l.tables l.table l.row)) ≡ Ok (tt {0})
