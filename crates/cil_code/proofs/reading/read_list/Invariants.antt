use Rattle.cil_code.proofs.Steps.{Lists}
use Rattle.cil_code.proofs.reading.read_list.Given as goal

abbrev pub invariant-loop-alloc : goal.invariant-loop-alloc
invariant-loop-alloc l = Lists l.list l.code l.fn.code

abbrev pub decreases-loop-alloc : goal.decreases-loop-alloc
decreases-loop-alloc l = l.code.left
