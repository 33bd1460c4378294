use Rattle.std.proofs.Common.{◌≡◌, map}
use Rattle.std.specs.List.{range_with_len}
use Rattle.std.specs.Str.{bytes_eq}
use Rattle.core_types.specs.Names.{with_all, id_in}
use Rattle.type_names.specs.Numbering.{IsSettled}
use Rattle.image_rows.specs.TypeNames.{full_name}
use Rattle.type_names.proofs.world_names.number_defs.Given as goal

abbrev pub invariant-loop-row : goal.invariant-loop-row
invariant-loop-row l = record {
  names : l.names ≡ with_all bytes_eq l.fn.names (map (full_name l.tables) (range_with_len 1 l.row));
  ids : IsSettled l.names (λ ns. map (id_in ns) (map (full_name l.tables) (range_with_len 1 l.row))) l.ids;
}
