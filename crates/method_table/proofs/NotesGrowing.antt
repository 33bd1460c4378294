-- Notes on types stay true where the pool grows.
use Rattle.std.proofs.Common.{◌<◌, ◌∙◌, ℕ, List, length, ap, sym}
use Rattle.type_tree.specs.declared.tree.Ty.{Ty}
use Rattle.type_tree.specs.Canon.{canon_ty}
use Rattle.type_tree.specs.World.{Facts}
use Rattle.type_pool.specs.declared.nodes.Id.{Id}
use Rattle.type_pool.specs.Trees.{at, Grows}
use Rattle.type_pool.proofs.JobLemmas.{at-grown, noted-grown}
use Rattle.field_layout.specs.Layouts.{layout_of}
use Rattle.field_layout.proofs.EndNotes.{known-grown}
use Rattle.interface_maps.proofs.MapLemmas.{maps-grown, slots-grown}
use Rattle.method_table.specs.declared.notes.TableNotes.{TableNotes}
use Rattle.method_table.specs.declared.notes.Found.{Found}
use Rattle.method_table.specs.Notes.{AreTableNotes, IsFoundOf}

module _ (w : Facts) (ts us : List Ty) (g : Grows ts us) where
  pub table_notes-grown : (notes : TableNotes) → AreTableNotes w ts notes → AreTableNotes w us notes
  table_notes-grown notes are = record {
    canonical = noted-grown ts us g (canon_ty w) notes.canonical are.canonical;
    layouts = known-grown w ts us g notes.layouts are.layouts;
    slots = slots-grown ts us g w notes.slots are.slots;
    maps = maps-grown ts us g w notes.maps are.maps;
  }

  pub found_of-grown : (notes : TableNotes) (id : Id) (n : ℕ) (found : Found) → id.0 < length ts → IsFoundOf w notes (at ts id) n found → IsFoundOf w notes (at us id) n found
  found_of-grown notes id n found inside is = record { layout = is.layout ∙ ap (layout_of w) (sym (at-grown ts us g id inside)); slots = is.slots; maps = is.maps }
