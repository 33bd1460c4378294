-- The items so far.
use Rattle.std.proofs.Common.{◌≡◌, map, take, Some}
use Rattle.type_record.specs.Naming.{slot_in}
use Rattle.type_record.proofs.naming.slots_in.Given as goal

abbrev pub invariant-loop-slot : goal.invariant-loop-slot
invariant-loop-slot g l = map (slot_in (g.H.Handles.handle_of l.names)) (take l.slot-index l.slots) ≡ map (slot_in Some) l.all
