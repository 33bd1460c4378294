use Rattle.std.proofs.Common.{◌≡◌, ◌++◌, map}
use Rattle.std.specs.List.{range_with_len}
use Rattle.world_build.specs.References.{spec_key}
use Rattle.world_build.proofs.file_signatures.push_spec_keys.Given as goal

abbrev pub invariant-loop-row : goal.invariant-loop-row
invariant-loop-row l = l.keys ≡ l.fn.keys ++ map (spec_key l.reader) (range_with_len 1 l.row)
