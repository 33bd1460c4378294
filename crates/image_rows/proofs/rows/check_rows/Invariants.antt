use Rattle.std.proofs.Common.{◌≡◌, Ok, slice_index}
use Rattle.clr_base.specs.Checks.{first_fault, each}
use Rattle.image_rows.specs.Rows.{checked_tables, table_checks}
use Rattle.image_rows.proofs.rows.check_rows.Given as goal

abbrev pub invariant-loop-table : goal.invariant-loop-table
invariant-loop-table l = first_fault (each l.table-index (λ k. table_checks l.tables (slice_index checked_tables k))) ≡ Ok (tt {0})
