use Rattle.type_subs.specs.Constraints.{is_plain_constructor}
use Rattle.type_subs.proofs.Runs.{Walk}
use Rattle.type_subs.proofs.makers.has_constructor.Given as goal

abbrev pub invariant-loop-number : goal.invariant-loop-number
invariant-loop-number l = Walk (is_plain_constructor l.world) l.world.methods l.def.first_method l.def.methods l.number
