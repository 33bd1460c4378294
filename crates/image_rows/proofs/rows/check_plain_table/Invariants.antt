use Rattle.std.proofs.Common.{◌≡◌, ◌+◌, Ok}
use Rattle.clr_base.specs.Checks.{first_fault, each}
use Rattle.image_rows.specs.Rows.{row_checks}
use Rattle.image_rows.proofs.rows.check_plain_table.Given as goal

abbrev pub invariant-loop-row : goal.invariant-loop-row
invariant-loop-row l = first_fault (each l.row (λ r. row_checks l.tables l.table (r + 1))) ≡ Ok (tt {0})
