use Rattle.interface_maps.proofs.MapLemmas.{maps-grown, slots-grown}
use Rattle.type_subs.proofs.NoteLemmas.{noted_grown}
use Rattle.type_judge.proofs.NotesGrow.{on_ok_then}
use Rattle.type_judge.proofs.tests.deep_layout.Goals as goal

pub returns-clause-notes : goal.returns-clause-notes
returns-clause-notes c =
    let w = c.args.world.now in let ts = c.args.pool.now in let us = c.has_deep_layout.new.pool in let g = c.has_deep_layout.ensures.grows in
    on_ok_then c.has_deep_layout.result (λ found. record {
      faults = found;
      slots = slots-grown ts us g w c.args.notes.now.slots c.requires.notes.slots;
      maps = maps-grown ts us g w c.args.notes.now.maps c.requires.notes.maps;
      constraints = noted_grown w ts us c.args.notes.now.constraints.canons g c.requires.notes.constraints;
      slot_faults = c.requires.notes.slot_faults;
    }) c.has_deep_layout.ensures.notes
