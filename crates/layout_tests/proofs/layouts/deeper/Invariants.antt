use Rattle.std.proofs.Common.{◌<◌, length}
use Rattle.layout_tests.proofs.layouts.deeper.Given as goal

abbrev pub invariant-loop : goal.invariant-loop
invariant-loop l = l.last.0 < length l.pool
