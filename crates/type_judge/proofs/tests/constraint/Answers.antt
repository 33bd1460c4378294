use Rattle.interface_maps.proofs.MapLemmas.{maps-grown, slots-grown}
use Rattle.type_judge.proofs.NotesGrow.{on_ok_then}
use Rattle.type_judge.specs.Growing.{faults-grown}
use Rattle.type_judge.proofs.tests.constraint.Goals as goal

pub returns-clause-notes : goal.returns-clause-notes
returns-clause-notes c =
    let w = c.args.world.now in let ts = c.args.pool.now in let us = c.fails_constraint.new.pool in let g = c.fails_constraint.ensures.grows in
    on_ok_then c.fails_constraint.result (λ found. record {
      faults = faults-grown w ts us g c.args.notes.now.faults c.requires.notes.faults;
      slots = slots-grown ts us g w c.args.notes.now.slots c.requires.notes.slots;
      maps = maps-grown ts us g w c.args.notes.now.maps c.requires.notes.maps;
      constraints = found;
      slot_faults = c.requires.notes.slot_faults;
    }) c.fails_constraint.ensures.noted
