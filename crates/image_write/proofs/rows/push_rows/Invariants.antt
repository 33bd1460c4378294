use Rattle.std.proofs.Common.{◌≡◌, ◌++◌}
use Rattle.image_write.specs.Image.{table_bytes}
use Rattle.image_write.specs.Pieces.{joined}
use Rattle.image_write.proofs.rows.push_rows.Given as goal

abbrev pub invariant-loop-t : goal.invariant-loop-t
invariant-loop-t l = l.out.items ≡ l.initial.out.items ++ joined l.t (table_bytes l.draft)
