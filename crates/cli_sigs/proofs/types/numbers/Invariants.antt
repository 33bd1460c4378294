use Rattle.std.proofs.Common.{◌≡◌, ◌-◌}
use Rattle.cli_sigs.specs.Reading.{behind, repeated}
use Rattle.cli_sigs.specs.Compressed.{number_at}
use Rattle.cli_sigs.specs.Types.{numbers_at}
use Rattle.cli_sigs.proofs.types.numbers.Given as goal

abbrev pub invariant-loop : goal.invariant-loop
invariant-loop l = behind (repeated number_at (l.count - l.counter) l.rest) ≡ numbers_at l.bytes
