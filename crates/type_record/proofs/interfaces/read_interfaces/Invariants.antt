-- What is left goes on from what is read.
use Rattle.type_record.proofs.InterfaceLemmas.{GoesOn}
use Rattle.type_record.proofs.interfaces.read_interfaces.Given as goal

abbrev pub invariant-loop-i : goal.invariant-loop-i
invariant-loop-i l = GoesOn l.words l.methods l.all l.slots l.before l.i
