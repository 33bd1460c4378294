use Rattle.std.proofs.Common.{◌≡◌, map}
use Rattle.std.specs.List.{range_with_len, flat_map}
use Rattle.std.specs.Str.{bytes_eq}
use Rattle.core_types.specs.Names.{with_all}
use Rattle.type_names.specs.Numbering.{IsSettled, missing_text}
use Rattle.type_names.specs.WorldNames.{target_of_in}
use Rattle.type_names.specs.Resolution.{resolved}
use Rattle.image_rows.specs.TypeNames.{name_of_ref}
use Rattle.type_names.proofs.world_names.targets.Given as goal

abbrev pub invariant-loop-row : goal.invariant-loop-row
invariant-loop-row l = record {
  names : l.names ≡ with_all bytes_eq l.fn.names (flat_map (λ row. missing_text (name_of_ref l.tables row) (resolved l.defs l.file l.tables row)) (range_with_len 1 l.row));
  targets : IsSettled l.names (λ ns. map (target_of_in ns l.defs l.file l.tables) (range_with_len 1 l.row)) l.targets;
}
