use Rattle.type_pool.specs.Trees.{at_all}
use Rattle.method_table.proofs.FieldRuns.{IsDone}
use Rattle.method_table.proofs.fields.fields_of.Given as goal

abbrev pub invariant-loop-number : goal.invariant-loop-number
invariant-loop-number l = IsDone l.world l.def (at_all l.fn.pool l.args) l.offsets l.fn.pool l.fn.keys l.number l.next l.pool l.keys l.done
