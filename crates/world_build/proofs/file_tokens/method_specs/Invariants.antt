use Rattle.std.proofs.Common.{◌≡◌, map}
use Rattle.std.specs.List.{range_with_len}
use Rattle.world_build.specs.References.{method_spec}
use Rattle.world_build.proofs.file_tokens.method_specs.Given as goal

abbrev pub invariant-loop-row : goal.invariant-loop-row
invariant-loop-row l = l.found ≡ map (method_spec l.reader) (range_with_len 1 l.row)
