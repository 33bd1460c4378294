-- What stands in the rows of a file (ECMA-335 II.22, II.24.2).
use Rattle.std.specs.Prelude.{ℕ, ◌+◌, ◌-◌, ◌/◌, ◌%◌, ◌^◌, List, [], ◌==◌, ◌&&◌, Bool, nat_le, nat_lt, min, filter, Option, None, Some, unwrap_or, if◌then◌else◌, get_or}
use Rattle.std.specs.List.{find, range_with_len}
use Rattle.std.specs.Str.{is_utf8}
use Rattle.cli_tables.specs.declared.schema.CodedIndex.{CodedIndex}
use Rattle.cli_tables.specs.Heaps.{text_at, blob_at}
use Rattle.cli_tables.specs.Layout.{cell, row_count}
use Rattle.cli_tables.specs.Metadata.{Metadata}
use Rattle.cli_tables.specs.Schema.{tables_of, tag_bits}
use Rattle.image_rows.specs.declared.cells.RowOf.{RowOf}

-- how many rows a table has, and their numbers, from 1
abbrev pub rows : Metadata → ℕ → ℕ
rows m table = row_count m.tables table

abbrev pub rows_of : Metadata → ℕ → List ℕ
rows_of m table = range_with_len 1 (rows m table)

-- the number in a cell
abbrev pub at : Metadata → ℕ → ℕ → ℕ → ℕ
at m table row column = cell m.tables table row column

-- a text, empty where there is none, which is not so in a file that passes its checks
abbrev pub text_or_empty : Option (List ℕ) → List ℕ
text_or_empty None = []
text_or_empty (Some t) = if is_utf8 t then t else []

-- the text and the blob at an index, empty where there is none
abbrev pub text_by : Metadata → ℕ → List ℕ
text_by m index = text_or_empty (text_at m.strings index)

abbrev pub blob_by : Metadata → ℕ → List ℕ
blob_by m index = unwrap_or (blob_at m.blobs index) []

-- the text and the blob at the index in a cell
unfoldable pub text : Metadata → ℕ → ℕ → ℕ → List ℕ
text m table row column = text_by m (at m table row column)

unfoldable pub blob : Metadata → ℕ → ℕ → ℕ → List ℕ
blob m table row column = blob_by m (at m table row column)

-- The row that a coded index means (II.24.2.6): none where its row is 0 or its tag has no table.
abbrev pub of_table : Option ℕ → ℕ → Option RowOf
of_table None row = None
of_table (Some table) row = if row == 0 then None else Some (record { table = table; row = row })

unfoldable pub coded : CodedIndex → ℕ → Option RowOf
coded index value = of_table (get_or (tables_of index) (value % 2 ^ tag_bits index) None) (value / 2 ^ tag_bits index)

-- ---- rows that tell of another row

-- the rows of a table that have a number in a column, in order
unfoldable pub rows_with : Metadata → ℕ → ℕ → ℕ → List ℕ
rows_with m table column value = filter (λ row. at m table row column == value) (rows_of m table)

-- the first of them
unfoldable pub first_with : Metadata → ℕ → ℕ → ℕ → Option ℕ
first_with m table column value = find (λ row. at m table row column == value) (rows_of m table)

-- ---- runs (II.22.37): a TypeDef row has the first of its rows of another table; they end before the next one's

abbrev pub run_end : Metadata → ℕ → ℕ → ℕ → ℕ
run_end m column table row = if nat_lt row (rows m 0x02) then at m 0x02 (row + 1) column else rows m table + 1

-- how many rows a run has
unfoldable pub run_len : Metadata → ℕ → ℕ → ℕ → ℕ
run_len m column table row = run_end m column table row - at m 0x02 row column

-- how many rows of a table stand before a run: all of them where it begins behind them
unfoldable pub before_run : Metadata → ℕ → ℕ → ℕ → ℕ
before_run m column table row = min (at m 0x02 row column - 1) (rows m table)

-- a row stands in a run
abbrev pub in_run : ℕ → ℕ → ℕ → Bool
in_run first end row = nat_le first row && nat_lt row end

abbrev pub is_owner : Metadata → ℕ → ℕ → ℕ → ℕ → Bool
is_owner m column table row def = in_run (at m 0x02 def column) (run_end m column table def) row

-- the TypeDef row in whose run a row stands, the first where there are several; 0 where there is none
unfoldable pub owner_of : Metadata → ℕ → ℕ → ℕ → ℕ
owner_of m column table row = unwrap_or (find (is_owner m column table row) (rows_of m 0x02)) 0

-- how many rows of a table stand before the first run, and so in none
unfoldable pub loose : Metadata → ℕ → ℕ → ℕ
loose m column table = if rows m 0x02 == 0 then rows m table else at m 0x02 1 column - 1
