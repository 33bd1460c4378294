use Rattle.type_pool.proofs.JobLemmas.{on_ok}
use Rattle.field_layout.proofs.EndNotes.{known-grown}
use Rattle.key_closure.proofs.NodeTurns.{keys_below-grown}
use Rattle.interface_maps.proofs.MapLemmas.{maps-grown, slots-grown}
use Rattle.method_table.proofs.Growing.{keys_stay}
use Rattle.method_table.proofs.tables.canon_number.Goals as goal

pub returns-in_err-canon-clause-grows : goal.returns-in_err-canon-clause-grows
returns-in_err-canon-clause-grows c = keys_stay c.args.pool.now c.canon_key.new.pool c.args.keys.now c.canon_key.ensures.grows c.requires.keys

pub number_of-requires-clause-keys : goal.number_of-requires-clause-keys
number_of-requires-clause-keys c = keys_below-grown c.args.pool.now c.canon_key.new.pool c.canon_key.ensures.grows c.args.keys.now c.requires.keys

pub returns-clause-notes : goal.returns-clause-notes
returns-clause-notes c =
    let w = c.args.world.now in let ts = c.args.pool.now in let us = c.canon_key.new.pool in let g = c.canon_key.ensures.grows in
    on_ok c.number_of.result (record {
      canonical = c.in_ok-canon.ensures.noted;
      layouts = known-grown w ts us g c.args.notes.now.layouts c.requires.notes.layouts;
      slots = slots-grown ts us g w c.args.notes.now.slots c.requires.notes.slots;
      maps = maps-grown ts us g w c.args.notes.now.maps c.requires.notes.maps;
    })
