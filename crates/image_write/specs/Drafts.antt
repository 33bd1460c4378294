-- What a draft says: its tables by rows and columns, and how wide its columns are written.
use Rattle.std.specs.Prelude.{ℕ, ◌+◌, ◌*◌, ◌/◌, ◌^◌, List, [], map, length, Bool, ◌||◌, nat_le, nat_lt, get_or, if◌then◌else◌}
use Rattle.std.specs.List.{range_with_len}
use Rattle.cli_tables.specs.Schema.{columns}
use Rattle.cli_tables.specs.Layout.{width, widths, has_bit, one_if, sum_below}
use Rattle.image_write.specs.declared.draft.Draft.{Draft}

-- how many columns the schema gives a table
abbrev pub column_count : ℕ → ℕ
column_count t = length (columns t)

-- the cells of a table, row after row
unfoldable pub cells : Draft → ℕ → List ℕ
cells draft t = get_or draft.tables t []

-- how many rows it has
unfoldable pub rows : Draft → ℕ → ℕ
rows draft t = length (cells draft t) / column_count t

unfoldable pub counts : Draft → List ℕ
counts draft = map (rows draft) (range_with_len 0 45)

abbrev pub has_rows : Draft → ℕ → Bool
has_rows draft t = nat_lt 0 (rows draft t)

-- the number in a cell. Rows and columns count from 0.
unfoldable pub cell : Draft → ℕ → ℕ → ℕ → ℕ
cell draft t r c = get_or (cells draft t) (r * column_count t + c) 0

-- the indexes of a heap are wide where its bit asks for it, and where the heap has 65,536 bytes or more (II.24.2.6)
abbrev pub is_wide : ℕ → ℕ → List ℕ → Bool
is_wide bits bit heap = has_bit bits bit || nat_le 65536 (length heap)

-- HeapSizes
unfoldable pub heap_bits : Draft → ℕ
heap_bits draft =
    one_if (is_wide draft.heap_sizes 0 draft.strings) + 2 * one_if (is_wide draft.heap_sizes 1 draft.guids)
    + 4 * one_if (is_wide draft.heap_sizes 2 draft.blobs)

-- the bits of the tables below n that have rows
unfoldable pub mask_below : Draft → ℕ → ℕ
mask_below draft n = sum_below (λ t. if has_rows draft t then 2 ^ t else 0) n

-- Valid
abbrev pub valid : Draft → ℕ
valid draft = mask_below draft 45

-- the width of a column in bytes
unfoldable pub column_width : Draft → ℕ → ℕ → ℕ
column_width draft t c = get_or (map (width (counts draft) (heap_bits draft)) (columns t)) c 0

-- the width of a row
unfoldable pub row_len : Draft → ℕ → ℕ
row_len draft t = widths (counts draft) (heap_bits draft) (columns t)
