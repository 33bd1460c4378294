-- What is answered of the slots and interfaces of a definition.
use Rattle.std.specs.Prelude.{◌≡◌, ℕ, nat_eq, Bool, true, false, ◌||◌, List, Some}
use Rattle.std.specs.HashMap.{get}
use Rattle.type_tree.specs.declared.tree.Ty.{Ty}
use Rattle.type_tree.specs.World.{Facts}
use Rattle.method_slots.specs.Chains.{longest_chain, slots}
use Rattle.method_slots.specs.Faults as faults
use Rattle.slot_chains.specs.declared.answers.SlotAnswer.{SlotAnswer}
use Rattle.slot_chains.specs.declared.answers.SlotAnswer.TheVariants as slot
use Rattle.slot_chains.specs.declared.notes.Notes.{Notes}
use Rattle.slot_chains.specs.Levels.{Stand}
use Rattle.interface_maps.specs.declared.maps.MapNotes.{MapNotes}
use Rattle.interface_maps.specs.declared.verdicts.MapAnswer.{MapAnswer}
use Rattle.interface_maps.specs.declared.verdicts.MapAnswer.TheVariants as map
use Rattle.interface_maps.specs.Choices.{answers, lacks_answer}
use Rattle.interface_maps.specs.Found.{AreFound}
use Rattle.interface_maps.specs.Maps.{interfaces_of}

-- an override of a definition is bad
abbrev pub bad_override : Facts → ℕ → Bool
bad_override w n = faults.bad_override w n (interfaces_of w n)

-- a definition that isn't abstract has a slot with an abstract method, or an interface method that nothing answers
abbrev pub no_method : Facts → ℕ → Bool
no_method w n = faults.lacks_method w n || lacks_answer w n

-- neither fault holds
pub record IsGood (w : Facts) (n : ℕ) : Type 0 where
  pub overrides : bad_override w n ≡ false
  pub methods : no_method w n ≡ false

-- no override is bad, but a method is missing
pub record IsPoor (w : Facts) (n : ℕ) : Type 0 where
  pub overrides : bad_override w n ≡ false
  pub methods : no_method w n ≡ true

-- the slots of a definition, or why it has none
abbrev pub IsSlots : Facts → ℕ → SlotAnswer → Type 0
IsSlots w n (slot.Found entries) = IsGood w n × Stand entries (slots longest_chain w n)
IsSlots w n slot.BadOverride = bad_override w n ≡ true
IsSlots w n slot.NoMethod = IsPoor w n

-- the interfaces of a definition with their choices, or why it has none
abbrev pub IsMapAnswer : Facts → List Ty → ℕ → MapAnswer → Type 0
IsMapAnswer w ts n (map.Found found) = IsGood w n × AreFound ts found (answers longest_chain w n)
IsMapAnswer w ts n map.BadOverride = bad_override w n ≡ true
IsMapAnswer w ts n map.NoMethod = IsPoor w n

-- where what was found of the slots of a definition stands, and where what was found of its interfaces
pub record AreNoted (slots : Notes) (maps : MapNotes) (n : ℕ) (at : ℕ × ℕ) : Type 0 where
  pub slot : get nat_eq slots.places n ≡ Some at.0
  pub map : get nat_eq maps.places n ≡ Some at.1
