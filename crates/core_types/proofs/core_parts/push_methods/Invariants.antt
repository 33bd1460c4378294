use Rattle.std.proofs.Common.{◌≡◌, ◌++◌, map, take}
use Rattle.core_types.specs.CoreLibrary.{method_of}
use Rattle.core_types.proofs.core_parts.push_methods.Given as goal

abbrev pub invariant-loop-row : goal.invariant-loop-row
invariant-loop-row l = l.methods ≡ l.initial.methods ++ map (method_of l.number) (take l.row-index l.rows)
