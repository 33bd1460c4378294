use Rattle.std.proofs.Common.{◌≡◌, ◌+◌, drop}
use Rattle.method_slots.specs.Chains as chains
use Rattle.slot_chains.specs.Puts.{put_all}
use Rattle.slot_chains.proofs.own.put_own.Given as goal

abbrev pub invariant-loop-i : goal.invariant-loop-i
invariant-loop-i l = put_all l.entries (chains.own_takes l.owner (l.first + l.i) (drop l.i l.numbers)) ≡ put_all l.fn.entries (chains.own_takes l.owner l.first l.numbers)
