use Rattle.std.proofs.Common.{◌≡◌, ◌+◌, false}
use Rattle.std.specs.List.{list_any, range_with_len}
use Rattle.type_expands.specs.Expands as spec
use Rattle.type_expands.proofs.answers.any_found.Given as goal

abbrev pub invariant-loop-n : goal.invariant-loop-n
invariant-loop-n l = list_any (λ n. spec.found_at l.found (l.span.first + n)) (range_with_len 0 l.n) ≡ false
