use Rattle.image_rows.proofs.Enclosing.{SaidBehind}
use Rattle.image_rows.proofs.nesting.enclosing_rows.Given as goal

abbrev pub invariant-loop-k : goal.invariant-loop-k
invariant-loop-k l = SaidBehind l.tables l.k l.rows
