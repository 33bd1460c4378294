-- What is noted stays so over a pool that grows.
use Rattle.std.specs.Prelude.{List}
use Rattle.type_tree.specs.declared.tree.Ty.{Ty}
use Rattle.type_tree.specs.World.{Facts}
use Rattle.type_pool.specs.Trees.{Grows}
use Rattle.field_layout.proofs.EndNotes as layout
use Rattle.interface_maps.proofs.MapLemmas.{maps-grown, slots-grown}
use Rattle.type_subs.proofs.NoteLemmas.{noted_grown}
use Rattle.key_faults.specs.declared.told.Told.{Told}
use Rattle.key_faults.specs.declared.notes.Notes as key
use Rattle.key_faults.specs.Told as faults
use Rattle.type_judge.specs.declared.notes.Notes.{Notes}
use Rattle.type_judge.specs.Notes.{AreNotes}

module _ (w : Facts) (ts us : List Ty) (g : Grows ts us) where
  pub faults-grown : (notes : key.Notes) → faults.AreNotes w ts notes → faults.AreNotes w us notes
  faults-grown notes a = record { lists = a.lists; layouts = layout.known-grown w ts us g notes.layouts a.layouts }

  pub notes-grown : (notes : Notes) → AreNotes w ts notes → AreNotes w us notes
  notes-grown notes a = record {
    faults = faults-grown notes.faults a.faults;
    slots = slots-grown ts us g w notes.slots a.slots;
    maps = maps-grown ts us g w notes.maps a.maps;
    constraints = noted_grown w ts us notes.constraints.canons g a.constraints;
    slot_faults = a.slot_faults;
  }

pub judge-grown : (w : Facts) (told : Told) (ts us : List Ty) (notes : Notes) → Grows ts us → faults.IsTold w told × AreNotes w ts notes → faults.IsTold w told × AreNotes w us notes
judge-grown w told ts us notes g right = (right.0, notes-grown w ts us g notes right.1)
