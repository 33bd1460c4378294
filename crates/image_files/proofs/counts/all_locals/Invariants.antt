use Rattle.std.proofs.Common.{◌≡◌}
use Rattle.image_files.specs.Counts.{capped}
use Rattle.image_files.specs.Signatures.{locals_before}
use Rattle.image_files.proofs.counts.all_locals.Given as goal

abbrev pub invariant-loop-row : goal.invariant-loop-row
invariant-loop-row l = l.total ≡ capped (locals_before l.tables l.row)
