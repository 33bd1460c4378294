-- The lists so far stand behind what stood there, and have numbers of 32 bits.
use Rattle.std.proofs.Common.{◌≡◌, ◌++◌, map, take}
use Rattle.std.specs.List.{flat_map, All}
use Rattle.type_record.specs.Records.{choice_entry, ChoiceHasNumber}
use Rattle.type_record.proofs.entry_list.push_interface_slots.Given as goal

abbrev pub invariant-loop-choices : goal.invariant-loop-choices
invariant-loop-choices g l = record {
  pushed : l.all ≡ l.fn.all ++ flat_map (map choice_entry) (take l.choices-index l.lists);
  numbers : All (All ChoiceHasNumber) (take l.choices-index l.lists);
}
