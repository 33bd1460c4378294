-- The items so far stand behind what stood there, and have numbers of 32 bits.
use Rattle.std.proofs.Common.{◌≡◌, ◌++◌, map, take}
use Rattle.std.specs.List.{All}
use Rattle.type_record.specs.Records.{slot_entry, SlotHasNumber}
use Rattle.type_record.proofs.entry_list.push_slots.Given as goal

abbrev pub invariant-loop-slot : goal.invariant-loop-slot
invariant-loop-slot g l = record {
  pushed : l.all ≡ l.fn.all ++ map slot_entry (take l.slot-index l.slots);
  numbers : All SlotHasNumber (take l.slot-index l.slots);
}
