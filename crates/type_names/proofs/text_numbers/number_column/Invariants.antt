use Rattle.std.proofs.Common.{◌≡◌, map}
use Rattle.std.specs.List.{range_with_len}
use Rattle.std.specs.Str.{bytes_eq}
use Rattle.image_rows.specs.Cells.{text}
use Rattle.core_types.specs.Names.{with_all, id_in}
use Rattle.type_names.specs.Numbering.{IsSettled, AreNoted}
use Rattle.type_names.proofs.text_numbers.number_column.Given as goal

abbrev pub invariant-loop-row : goal.invariant-loop-row
invariant-loop-row l = record {
  names : l.names ≡ with_all bytes_eq l.fn.names (map (λ row. text l.tables l.table row l.column) (range_with_len 1 l.row));
  noted : AreNoted l.tables l.names l.noted;
  ids : IsSettled l.names (λ ns. map (id_in ns) (map (λ row. text l.tables l.table row l.column) (range_with_len 1 l.row))) l.ids;
}
