use Rattle.def_faults.specs.NotFound.{is_missing_field}
use Rattle.def_faults.proofs.Runs.{Walk}
use Rattle.def_faults.proofs.missing.has_missing_field.Given as goal

abbrev pub invariant-loop-number : goal.invariant-loop-number
invariant-loop-number l = Walk is_missing_field l.world.fields l.def.first_field l.def.fields l.number
