use Rattle.std.proofs.Common.{◌≡◌, map, take}
use Rattle.method_table.specs.Tables.{chosen}
use Rattle.method_table.proofs.slots.choices_of.Given as goal

abbrev pub invariant-loop-choice : goal.invariant-loop-choice
invariant-loop-choice l = l.done ≡ map (chosen l.slots) (take l.choice-index l.choices)
