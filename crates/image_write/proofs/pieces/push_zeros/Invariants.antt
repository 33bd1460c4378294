use Rattle.std.proofs.Common.{◌≡◌, ◌++◌}
use Rattle.image_write.specs.Pieces.{zeros}
use Rattle.image_write.proofs.pieces.push_zeros.Given as goal

abbrev pub invariant-loop : goal.invariant-loop
invariant-loop l = l.out.items ≡ l.initial.out.items ++ zeros l.counter
