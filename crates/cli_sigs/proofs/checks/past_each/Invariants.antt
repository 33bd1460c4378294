use Rattle.std.proofs.Common.{◌≡◌, ◌-◌}
use Rattle.cli_sigs.specs.Reading.{behind, repeated}
use Rattle.cli_sigs.specs.Signatures as spec
use Rattle.cli_sigs.proofs.checks.past_each.Given as goal

abbrev pub invariant-loop : goal.invariant-loop
invariant-loop l = behind (repeated (spec.local_at l.counts) (l.count - l.counter) l.rest) ≡ behind (repeated (spec.local_at l.counts) l.count l.bytes)
