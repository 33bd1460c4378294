use Rattle.std.proofs.Common.{◌≡◌, ◌≤◌, ◌*◌, map}
use Rattle.std.specs.List.{range_with_len}
use Rattle.core_types.specs.CoreLibrary.{def_of, methods_before}
use Rattle.core_types.proofs.core_parts.defs.Given as goal

abbrev pub invariant-loop-number : goal.invariant-loop-number
invariant-loop-number l = record {
  so_far : l.defs ≡ map def_of (range_with_len 0 l.number);
  before : l.methods_before ≡ methods_before l.number;
  few : l.methods_before ≤ 12 * l.number;
}
