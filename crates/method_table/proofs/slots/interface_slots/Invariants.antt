use Rattle.std.proofs.Common.{◌≡◌, map, take}
use Rattle.interface_maps.specs.declared.answers.Interface.{Interface}
use Rattle.method_table.specs.Tables.{chosen}
use Rattle.method_table.proofs.slots.interface_slots.Given as goal

abbrev pub invariant-loop-one : goal.invariant-loop-one
invariant-loop-one l = l.done ≡ map (λ (f : Interface). map (chosen l.slots) f.choices) (take l.one-index l.found)
