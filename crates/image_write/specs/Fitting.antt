-- Which drafts can be written.
use Rattle.std.specs.Prelude.{ℕ, ◌*◌, ◌^◌, length, Bool, ◌&&◌, ◌==◌, nat_le, nat_lt, Option, if◌then◌else◌}
use Rattle.std.specs.List.{list_all, find, range_with_len}
use Rattle.image_write.specs.declared.draft.Draft.{Draft}
use Rattle.image_write.specs.Drafts.{column_count, cells, rows, cell, column_width}
use Rattle.image_write.specs.Lengths.{image_len}
use Rattle.image_write.specs.Image.{is_rva}

-- a cell fits its column. An RVA is none, or that of a byte of `bodies`.
unfoldable pub cell_fits : Draft → ℕ → ℕ → ℕ → Bool
cell_fits draft t r c =
    if is_rva t c then nat_le (cell draft t r c) (length draft.bodies)
    else nat_lt (cell draft t r c) (256 ^ column_width draft t c)

unfoldable pub row_fits : Draft → ℕ → ℕ → Bool
row_fits draft t r = list_all (cell_fits draft t r) (range_with_len 0 (column_count t))

-- a table has whole rows, so a table without columns is empty; and its cells fit
unfoldable pub table_fits : Draft → ℕ → Bool
table_fits draft t =
    length (cells draft t) == rows draft t * column_count t && list_all (row_fits draft t) (range_with_len 0 (rows draft t))

-- there are 45 tables, the bits of heaps are known, the image has fewer than 2,147,483,648 bytes, and the tables fit
unfoldable pub fits : Draft → Bool
fits draft =
    length draft.tables == 45 && nat_le draft.heap_sizes 7 && nat_lt (image_len draft) (2 ^ 31)
    && list_all (table_fits draft) (range_with_len 0 45)

-- the first table with more rows than a token can name
unfoldable pub crowded : Draft → Option ℕ
crowded draft = find (λ t. nat_lt 16777215 (rows draft t)) (range_with_len 0 45)
