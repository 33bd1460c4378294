use Rattle.std.proofs.Common.{rules}
use Rattle.type_judge.proofs.notes.Notes.new.Goals as goal

pub returns : goal.returns
returns c = λ w ts. record {
  faults = c.new.ensures w ts;
  slots = record { all = search rules; chains = search rules };
  maps = search rules;
  constraints = c.new-4.ensures w ts;
  slot_faults = search rules;
}
