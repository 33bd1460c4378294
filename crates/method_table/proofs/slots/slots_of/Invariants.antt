use Rattle.std.proofs.Common.{◌≡◌, map, take}
use Rattle.method_table.specs.Tables.{slot_of}
use Rattle.method_table.proofs.slots.slots_of.Given as goal

abbrev pub invariant-loop-entry : goal.invariant-loop-entry
invariant-loop-entry l = l.done ≡ map (slot_of l.own l.chain) (take l.entry-index l.entries)
