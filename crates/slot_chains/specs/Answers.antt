-- What is answered of the slots of a definition.
use Rattle.std.specs.Prelude.{◌≡◌, ℕ, true, false, List, Some, slice_get}
use Rattle.type_tree.specs.declared.definition.Method.{Method}
use Rattle.type_tree.specs.declared.tree.Ty.{Ty}
use Rattle.type_tree.specs.World.{Facts}
use Rattle.method_slots.specs.declared.entries.SlotEntry.{SlotEntry}
use Rattle.method_slots.specs.Chains.{IsWithin, longest_chain, slots}
use Rattle.method_slots.specs.Faults.{bad_override, lacks_method}
use Rattle.slot_chains.specs.declared.answers.SlotAnswer.{SlotAnswer}
use Rattle.slot_chains.specs.declared.answers.SlotAnswer.TheVariants.{Found, BadOverride, NoMethod}
use Rattle.slot_chains.specs.Levels.{Stand}

-- neither fault holds, and this stands in the slots
pub record AreSlots (w : Facts) (n : ℕ) (interfaces : List Ty) (entries : List SlotEntry) : Type 0 where
  pub overrides : bad_override w n interfaces ≡ false
  pub methods : lacks_method w n ≡ false
  pub slots : Stand entries (slots longest_chain w n)

-- no override is bad, but an abstract method stands in a slot
pub record LacksMethod (w : Facts) (n : ℕ) (interfaces : List Ty) : Type 0 where
  pub overrides : bad_override w n interfaces ≡ false
  pub methods : lacks_method w n ≡ true

-- the answer of a definition that has these interfaces
abbrev pub IsAnswer : Facts → ℕ → List Ty → SlotAnswer → Type 0
IsAnswer w n interfaces (Found entries) = AreSlots w n interfaces entries
IsAnswer w n interfaces BadOverride = bad_override w n interfaces ≡ true
IsAnswer w n interfaces NoMethod = LacksMethod w n interfaces

-- the chain of the definition that owns a method is within the bound
abbrev pub OwnerWithin : Facts → ℕ → Type 0
OwnerWithin w m = (r : Method) → slice_get w.methods m ≡ Some r → IsWithin w r.def.0
