use Rattle.std.proofs.Common.{rules}
use Rattle.key_faults.proofs.notes.Notes.new.Goals as goal

pub returns : goal.returns
returns c = λ w ts. record {
  lists = search rules;
  layouts = c.new-2.ensures w ts;
}
