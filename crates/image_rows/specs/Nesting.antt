-- Which type definition encloses which (ECMA-335 II.22.32).
use Rattle.std.specs.Prelude.{ℕ, ◌+◌, List, map, nat_lt, if◌then◌else◌}
use Rattle.std.specs.Option.{option_map_or}
use Rattle.std.specs.List.{range_with_len}
use Rattle.cli_tables.specs.Metadata.{Metadata}
use Rattle.image_rows.specs.Cells.{at, first_with, rows}

-- the row of a definition that stands before another one. One that doesn't counts as none, which is 0.
abbrev pub if_before : ℕ → ℕ → ℕ
if_before row outer = if nat_lt outer row then outer else 0

-- the row of the definition that encloses the one in a row, as the first row of NestedClass tells that names it as nested; 0 where
-- there is none
unfoldable pub enclosing_row : Metadata → ℕ → ℕ
enclosing_row m row = if_before row (option_map_or (λ k. at m 0x29 k 1) (first_with m 0x29 0 row) 0)

-- the same for each row of TypeDef, with 0 in front, so that a row's number is its place
unfoldable pub enclosing_rows : Metadata → List ℕ
enclosing_rows m = map (enclosing_row m) (range_with_len 0 (rows m 0x02 + 1))
