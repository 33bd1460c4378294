-- The items so far stand behind what stood there, and have numbers of 32 bits.
use Rattle.std.proofs.Common.{◌≡◌, ◌++◌, map, take}
use Rattle.std.specs.List.{All}
use Rattle.type_record.specs.Records.{choice_entry, ChoiceHasNumber}
use Rattle.type_record.proofs.entry_list.push_choices.Given as goal

abbrev pub invariant-loop-choice : goal.invariant-loop-choice
invariant-loop-choice g l = record {
  pushed : l.all ≡ l.fn.all ++ map choice_entry (take l.choice-index l.choices);
  numbers : All ChoiceHasNumber (take l.choice-index l.choices);
}
