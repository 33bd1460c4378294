-- What is told of each definition of a world.
use Rattle.std.specs.Prelude.{◌≡◌, ℕ, Bool, true, false, nat_eq, unwrap_or, List, Option, None, Some, slice_get, slice_index_or}
use Rattle.std.specs.declared.hash.FoldHasher.{FoldHasher}
use Rattle.std.specs.declared.hash.BuildHasherDefault.{BuildHasherDefault}
use Rattle.std.specs.HashMap.{get, HashMap}
use Rattle.clr_base.specs.declared.ids.DefId.{DefId}
use Rattle.type_tree.specs.declared.tree.Ty.{Ty}
use Rattle.type_tree.specs.World.{Facts}
use Rattle.def_faults.specs.declared.faults.DefFaults.{DefFaults}
use Rattle.def_faults.specs.Faults.{AreFaults}
use Rattle.type_expands.specs.Expands.{AreExpanding}
use Rattle.field_layout.specs.Ends.{Known}
use Rattle.method_slots.specs.Chains.{longest_chain}
use Rattle.interface_lists.specs.Lists.{interfaces}
use Rattle.key_faults.specs.declared.told.Told.{Told}
use Rattle.key_faults.specs.declared.notes.Notes.{Notes}

-- the faults of each definition, and whether it expands
pub record IsTold (w : Facts) (told : Told) : Type 0 where
  pub faults : AreFaults w told.faults
  pub expanding : AreExpanding w told.expanding

abbrev pub no_faults : DefFaults
no_faults = record { not_found = false; base_cycle = false; bad_parent = false; bad_interface = false; not_in_profile = false; default_method = false }

-- what is told of a definition; nothing of a number that no definition has
abbrev pub faults_of : Told → DefId → DefFaults
faults_of told d = unwrap_or (slice_get told.faults d.0) no_faults

abbrev pub expands : Told → DefId → Bool
expands told d = slice_index_or told.expanding d.0 false

-- ---- notes

abbrev pub is_none : {A : Type 0} → Option A → Bool
is_none None = true
is_none (Some x) = false

-- the definition's list of interfaces passes the bounds of a closure
abbrev pub passes_bounds : Facts → DefId → Bool
passes_bounds w d = is_none (interfaces longest_chain w d.0)

abbrev pub Passing : Type 0
Passing = HashMap ℕ Bool (BuildHasherDefault FoldHasher)

-- each note says whether the list of that definition passes them
abbrev pub AreLists : Facts → Passing → Type 0
AreLists w lists = (n : ℕ) (passes : Bool) → get nat_eq lists n ≡ Some passes → passes ≡ passes_bounds w (record { 0 = n })

-- what is noted is so
pub record AreNotes (w : Facts) (ts : List Ty) (notes : Notes) : Type 0 where
  pub lists : AreLists w notes.lists
  pub layouts : Known w ts notes.layouts
