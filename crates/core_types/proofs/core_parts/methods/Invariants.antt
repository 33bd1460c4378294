use Rattle.std.proofs.Common.{◌≡◌}
use Rattle.std.specs.List.{flat_map, range_with_len}
use Rattle.core_types.specs.CoreLibrary.{methods_of}
use Rattle.core_types.proofs.core_parts.methods.Given as goal

abbrev pub invariant-loop-number : goal.invariant-loop-number
invariant-loop-number l = l.methods ≡ flat_map methods_of (range_with_len 0 l.number)
