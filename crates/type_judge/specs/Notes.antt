-- What was found of the definitions of a world and of the trees of a pool.
use Rattle.std.specs.Prelude.{◌≡◌, ℕ, nat_eq, List, Option, Some}
use Rattle.std.specs.declared.hash.FoldHasher.{FoldHasher}
use Rattle.std.specs.declared.hash.BuildHasherDefault.{BuildHasherDefault}
use Rattle.std.specs.HashMap.{get, HashMap}
use Rattle.type_tree.specs.declared.tree.Ty.{Ty}
use Rattle.type_tree.specs.World.{Facts}
use Rattle.load_events.specs.declared.load_fault.LoadFault.{LoadFault}
use Rattle.slot_chains.specs.Levels as slots
use Rattle.interface_maps.specs.Maps.{AreMaps}
use Rattle.type_subs.specs.Notes.{IsNoted}
use Rattle.key_faults.specs.Told as faults
use Rattle.type_judge.specs.declared.notes.Notes.{Notes}
use Rattle.type_judge.specs.Table.{slot_fault}

abbrev pub SlotFaults : Type 0
SlotFaults = HashMap ℕ (Option LoadFault) (BuildHasherDefault FoldHasher)

-- each note says what fault the slots of that definition have
abbrev pub AreSlotFaults : Facts → SlotFaults → Type 0
AreSlotFaults w notes = (n : ℕ) (found : Option LoadFault) → get nat_eq notes n ≡ Some found → found ≡ slot_fault w (record { 0 = n })

-- what is noted is so
pub record AreNotes (w : Facts) (ts : List Ty) (notes : Notes) : Type 0 where
  pub faults : faults.AreNotes w ts notes.faults
  pub slots : slots.AreNotes w ts notes.slots
  pub maps : AreMaps w ts notes.maps
  pub constraints : IsNoted w ts notes.constraints.canons
  pub slot_faults : AreSlotFaults w notes.slot_faults
