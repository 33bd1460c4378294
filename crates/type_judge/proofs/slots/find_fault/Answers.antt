use Rattle.type_subs.proofs.NoteLemmas.{noted_grown}
use Rattle.type_judge.specs.Growing.{faults-grown}
use Rattle.type_judge.proofs.slots.find_fault.Goals as goal

pub returns-clause-notes : goal.returns-clause-notes
returns-clause-notes c =
    let w = c.args.world.now in let ts = c.args.pool.now in let us = c.slots_in.new.pool in let g = c.slots_in.ensures.grows in record {
      faults = faults-grown w ts us g c.args.notes.now.faults c.requires.notes.faults;
      slots = c.in_ok-answer.ensures.slots;
      maps = c.in_ok-answer.ensures.maps;
      constraints = noted_grown w ts us c.args.notes.now.constraints.canons g c.requires.notes.constraints;
      slot_faults = c.requires.notes.slot_faults;
    }
