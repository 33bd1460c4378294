use Rattle.std.proofs.Common.{◌≡◌, map}
use Rattle.std.specs.List.{range_with_len}
use Rattle.type_names.specs.Resolution.{resolved}
use Rattle.type_names.proofs.resolve.file_places.Given as goal

abbrev pub invariant-loop-row : goal.invariant-loop-row
invariant-loop-row l = l.places ≡ map (resolved l.types.files.now l.file l.tables) (range_with_len 1 l.row)
