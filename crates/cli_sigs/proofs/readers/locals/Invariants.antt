use Rattle.std.proofs.Common.{◌≡◌, ◌-◌}
use Rattle.cli_sigs.specs.Reading.{repeated}
use Rattle.cli_sigs.specs.Signatures as spec
use Rattle.cli_sigs.proofs.Repeats.{with_front}
use Rattle.cli_sigs.proofs.readers.locals.Given as goal

abbrev pub invariant-loop : goal.invariant-loop
invariant-loop l = with_front l.list (repeated (spec.local_at l.counts) (l.count - l.counter) l.rest) ≡ spec.locals_at l.counts l.bytes
