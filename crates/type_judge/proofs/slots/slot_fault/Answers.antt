use Rattle.type_judge.proofs.NotesGrow.{on_ok_then, slot_noted}
use Rattle.type_judge.proofs.slots.slot_fault.Goals as goal

pub returns-clause-notes : goal.returns-clause-notes
returns-clause-notes c =
    let w = c.args.world.now in let was = c.in_ok-found.ensures.notes in
    on_ok_then c.put_note.result (λ put. record {
      faults = was.faults;
      slots = was.slots;
      maps = was.maps;
      constraints = was.constraints;
      slot_faults = slot_noted w c.find_fault.new.notes.slot_faults c.put_note.new.notes c.args.def c.in_ok-found.found was.slot_faults c.in_ok-found.ensures.fault put;
    }) c.put_note.ensures.put
