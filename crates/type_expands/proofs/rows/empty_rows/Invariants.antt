use Rattle.std.proofs.Common.{◌≡◌, [], replicate}
use Rattle.type_expands.proofs.rows.empty_rows.Given as goal

abbrev pub invariant-loop-i : goal.invariant-loop-i
invariant-loop-i l = l.rows.items ≡ replicate l.i []
