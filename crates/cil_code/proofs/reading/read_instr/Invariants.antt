use Rattle.cil_code.proofs.Steps.{Continues}
use Rattle.cil_code.proofs.reading.read_instr.Given as goal

abbrev pub invariant-loop-prefixes : goal.invariant-loop-prefixes
invariant-loop-prefixes l = Continues l.prefixes l.code l.fn.code

abbrev pub decreases-loop-prefixes : goal.decreases-loop-prefixes
decreases-loop-prefixes l = l.code.left
