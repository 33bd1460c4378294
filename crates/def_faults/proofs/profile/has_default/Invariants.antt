use Rattle.def_faults.specs.Flags.{is_default}
use Rattle.def_faults.proofs.Runs.{Walk}
use Rattle.def_faults.proofs.profile.has_default.Given as goal

abbrev pub invariant-loop-number : goal.invariant-loop-number
invariant-loop-number l = Walk is_default l.world.methods l.def.first_method l.def.methods l.number
