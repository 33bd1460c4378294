use Rattle.std.proofs.Common.{◌≡◌, ◌++◌}
use Rattle.image_write.specs.Image.{row_bytes}
use Rattle.image_write.specs.Pieces.{joined}
use Rattle.image_write.proofs.rows.push_table.Given as goal

abbrev pub invariant-loop-row : goal.invariant-loop-row
invariant-loop-row l = l.out.items ≡ l.initial.out.items ++ joined l.row (row_bytes l.draft l.table)
