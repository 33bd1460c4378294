use Rattle.image_rows.proofs.Runs.{OwnedBehind}
use Rattle.image_rows.proofs.member_runs.owners.Given as goal

abbrev pub invariant-loop-k : goal.invariant-loop-k
invariant-loop-k l = OwnedBehind l.tables l.column l.table l.k l.owners
