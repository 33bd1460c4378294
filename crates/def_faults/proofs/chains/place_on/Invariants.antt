use Rattle.std.proofs.Common.{◌≡◌, true, drop}
use Rattle.def_faults.specs.Marks.{is_on}
use Rattle.def_faults.proofs.chains.place_on.Given as goal

abbrev pub invariant-loop-place : goal.invariant-loop-place
invariant-loop-place l = is_on l.id (drop l.place l.path) ≡ true
