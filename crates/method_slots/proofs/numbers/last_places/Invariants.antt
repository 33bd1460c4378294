use Rattle.std.proofs.Common.{take}
use Rattle.method_slots.specs.Virtuals.{AreLast}
use Rattle.method_slots.proofs.numbers.last_places.Given as goal

abbrev pub invariant-loop-i : goal.invariant-loop-i
invariant-loop-i l = AreLast l.places (take l.i l.inherited)
