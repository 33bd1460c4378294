use Rattle.std.proofs.Common.{◌≡◌, ◌++◌}
use Rattle.image_write.specs.Image.{count_bytes}
use Rattle.image_write.specs.Pieces.{joined}
use Rattle.image_write.proofs.rows.push_counts.Given as goal

abbrev pub invariant-loop-t : goal.invariant-loop-t
invariant-loop-t l = l.out.items ≡ l.initial.out.items ++ joined l.t (count_bytes l.draft)
