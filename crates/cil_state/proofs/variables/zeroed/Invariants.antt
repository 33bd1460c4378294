use Rattle.std.proofs.Common.{◌≡◌, map, take}
use Rattle.cil_state.specs.Forms.{begun}
use Rattle.cil_state.proofs.variables.zeroed.Given as goal

abbrev pub invariant-loop-form : goal.invariant-loop-form
invariant-loop-form l = l.variables ≡ map begun (take l.form-index l.forms)
