use Rattle.type_pool.specs.Trees.{at_all}
use Rattle.field_layout.proofs.Runs.{Typing}
use Rattle.field_layout.proofs.own_fields.field_types.Given as goal

abbrev pub invariant-loop-number : goal.invariant-loop-number
invariant-loop-number l = Typing l.world l.def (at_all l.fn.pool l.args) l.fn.pool l.number l.pool l.types
