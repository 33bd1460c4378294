use Rattle.std.proofs.Common.{◌≡◌, map}
use Rattle.std.specs.List.{range_with_len}
use Rattle.core_types.specs.CoreTable.{text}
use Rattle.core_types.proofs.core_parts.names.Given as goal

abbrev pub invariant-loop-number : goal.invariant-loop-number
invariant-loop-number l = l.names ≡ map text (range_with_len 0 l.number)
