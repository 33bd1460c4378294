use Rattle.std.proofs.Common.{length}
use Rattle.closed_walks.proofs.Orders.{IsCutting}
use Rattle.closed_walks.proofs.steps.join.Given as goal

abbrev pub invariant-loop-start : goal.invariant-loop-start
invariant-loop-start l = IsCutting l.place l.fn.starts l.starts

abbrev pub decreases-loop-start : goal.decreases-loop-start
decreases-loop-start l = length l.starts
