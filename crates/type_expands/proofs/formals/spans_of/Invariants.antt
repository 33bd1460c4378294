use Rattle.std.proofs.Common.{◌≡◌, ◌++◌, drop}
use Rattle.type_expands.specs.Formals as spec
use Rattle.type_expands.proofs.formals.spans_of.Given as goal

abbrev pub invariant-loop-n : goal.invariant-loop-n
invariant-loop-n l = l.spans ++ spec.spans_from l.total (drop l.n l.world.defs) ≡ spec.spans l.world
