use Rattle.std.proofs.Common.{◌≡◌, take}
use Rattle.interface_maps.proofs.answers.copy_found.Given as goal

abbrev pub invariant-loop-one : goal.invariant-loop-one
invariant-loop-one l = l.done ≡ take l.one-index l.found
