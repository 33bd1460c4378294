use Rattle.std.proofs.Common.{◌≡◌, map}
use Rattle.std.specs.List.{range_with_len}
use Rattle.image_rows.specs.TypeNames.{full_name}
use Rattle.image_rows.proofs.definition_names.full_names.Given as goal

abbrev pub invariant-loop-row : goal.invariant-loop-row
invariant-loop-row l = l.names ≡ map (full_name l.tables) (range_with_len 1 l.row)
