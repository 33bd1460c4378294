use Rattle.type_tree.specs.Canon.{canon_ty}
use Rattle.type_pool.proofs.JobLemmas.{grows_trans, noted-grown}
use Rattle.field_layout.proofs.EndNotes.{known-grown}
use Rattle.interface_maps.proofs.MapLemmas.{maps-grown, slots-grown}
use Rattle.method_table.proofs.notes.look_up.Goals as goal

pub level_of-requires-clause-notes : goal.level_of-requires-clause-notes
level_of-requires-clause-notes c = slots-grown c.args.pool.now c.layout_in.new.pool c.in_ok-layout.ensures.grows c.args.world.now c.args.notes.now.slots c.requires.notes.slots

pub map_of-requires-clause-maps : goal.map_of-requires-clause-maps
map_of-requires-clause-maps c =
    let g = grows_trans c.args.pool.now c.layout_in.new.pool c.level_of.new.pool c.in_ok-layout.ensures.grows c.in_ok-slots.ensures.grows in
    maps-grown c.args.pool.now c.level_of.new.pool g c.args.world.now c.args.notes.now.maps c.requires.notes.maps

pub returns-clause-notes : goal.returns-clause-notes
returns-clause-notes c =
    let w = c.args.world.now in
    let ts = c.args.pool.now in let p = c.layout_in.new.pool in let q = c.level_of.new.pool in let us = c.map_of.new.pool in
    let late = grows_trans p q us c.in_ok-slots.ensures.grows c.in_ok-maps.ensures.grows in record {
      canonical = noted-grown ts us (grows_trans ts p us c.in_ok-layout.ensures.grows late) (canon_ty w) c.args.notes.now.canonical c.requires.notes.canonical;
      layouts = known-grown w p us late c.layout_in.new.notes c.in_ok-layout.ensures.known;
      slots = slots-grown q us c.in_ok-maps.ensures.grows w c.level_of.new.notes c.in_ok-slots.ensures.notes;
      maps = c.in_ok-maps.ensures.maps;
    }
