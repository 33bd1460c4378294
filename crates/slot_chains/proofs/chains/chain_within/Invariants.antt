use Rattle.std.proofs.Common.{◌≡◌, ◌-◌}
use Rattle.method_slots.specs.Chains as spec
use Rattle.slot_chains.proofs.chains.chain_within.Given as goal

abbrev pub invariant-loop-i : goal.invariant-loop-i
invariant-loop-i l = spec.chain_within (64 - l.i) l.world l.at.0 ≡ spec.chain_within spec.longest_chain l.world l.fn.def.0
