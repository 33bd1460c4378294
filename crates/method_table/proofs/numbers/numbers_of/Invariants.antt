use Rattle.method_table.proofs.Numbering.{IsNumbering}
use Rattle.method_table.proofs.numbers.numbers_of.Given as goal

abbrev pub invariant-loop-id : goal.invariant-loop-id
invariant-loop-id l = IsNumbering (λ t. t) l.pool l.fn.keys l.ids l.id-index l.pool l.keys l.done
