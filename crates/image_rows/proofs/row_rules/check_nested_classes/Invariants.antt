use Rattle.std.proofs.Common.{◌≡◌, ◌+◌, Ok}
use Rattle.clr_base.specs.Checks.{first_fault, each}
use Rattle.image_rows.specs.Rows.{row_checks}
use Rattle.image_rows.specs.RowsBefore.{AreNested}
use Rattle.image_rows.proofs.row_rules.check_nested_classes.Given as goal

abbrev pub invariant-loop-row : goal.invariant-loop-row
invariant-loop-row l = (first_fault (each l.row (λ r. row_checks l.tables 0x29 (r + 1))) ≡ Ok (tt {0})) × AreNested l.tables l.row l.seen
