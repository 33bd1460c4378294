use Rattle.std.proofs.Common.{◌≡◌, take}
use Rattle.method_slots.proofs.opens.same_ids.Given as goal

abbrev pub invariant-loop-i : goal.invariant-loop-i
invariant-loop-i l = take l.i l.xs ≡ take l.i l.ys
