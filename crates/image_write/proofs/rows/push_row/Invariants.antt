use Rattle.std.proofs.Common.{◌≡◌, ◌++◌}
use Rattle.image_write.specs.Image.{cell_bytes}
use Rattle.image_write.specs.Pieces.{joined}
use Rattle.image_write.proofs.rows.push_row.Given as goal

abbrev pub invariant-loop-c : goal.invariant-loop-c
invariant-loop-c l = l.out.items ≡ l.initial.out.items ++ joined l.c (cell_bytes l.draft l.table l.row)
