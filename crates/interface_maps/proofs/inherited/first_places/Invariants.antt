use Rattle.std.proofs.Common.{take}
use Rattle.interface_maps.specs.Inherited.{ArePlaces}
use Rattle.interface_maps.proofs.inherited.first_places.Given as goal

abbrev pub invariant-loop-i : goal.invariant-loop-i
invariant-loop-i l = ArePlaces l.places (take l.i l.trees)
