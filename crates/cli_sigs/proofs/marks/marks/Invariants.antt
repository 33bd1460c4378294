use Rattle.std.proofs.Common.{length}
use Rattle.cli_sigs.specs.Marks.{past_marks}
use Rattle.cli_sigs.proofs.MarkRuns.{IsLeft}
use Rattle.cli_sigs.proofs.marks.marks.Given as goal

abbrev pub invariant-loop-after : goal.invariant-loop-after
invariant-loop-after l = IsLeft l.counts l.what l.rest (past_marks l.counts l.what l.bytes)

abbrev pub decreases-loop-after : goal.decreases-loop-after
decreases-loop-after l = length l.rest
