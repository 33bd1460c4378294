-- What is known of what was found of types.
use Rattle.std.specs.Prelude.{◌≡◌, ℕ, nat_eq, List, Some}
use Rattle.std.specs.HashMap.{get}
use Rattle.type_tree.specs.declared.tree.Ty.{Ty}
use Rattle.type_tree.specs.Canon.{canon_ty}
use Rattle.type_tree.specs.World.{Facts}
use Rattle.type_pool.specs.Jobs.{AllNoted}
use Rattle.field_layout.specs.Ends.{Known}
use Rattle.field_layout.specs.Layouts.{layout_of}
use Rattle.slot_chains.specs.Levels.{AreNotes}
use Rattle.interface_maps.specs.Maps.{AreMaps}
use Rattle.method_table.specs.declared.notes.TableNotes.{TableNotes}
use Rattle.method_table.specs.declared.notes.Found.{Found}

-- each note is true
pub record AreTableNotes (w : Facts) (ts : List Ty) (notes : TableNotes) : Type 0 where
  pub canonical : AllNoted (canon_ty w) ts notes.canonical
  pub layouts : Known w ts notes.layouts
  pub slots : AreNotes w ts notes.slots
  pub maps : AreMaps w ts notes.maps

-- what was found of the type t, which instantiates the definition n, stands in the notes
pub record IsFoundOf (w : Facts) (notes : TableNotes) (t : Ty) (n : ℕ) (found : Found) : Type 0 where
  pub layout : found.layout ≡ layout_of w t
  pub slots : get nat_eq notes.slots.places n ≡ Some found.slots
  pub maps : get nat_eq notes.maps.places n ≡ Some found.maps
