-- The stream `#~` (ECMA-335 II.24.2.6): which tables are there, how many rows they have, and where each cell stands.
use Rattle.std.specs.Prelude.{ℕ, zero, suc, ◌+◌, ◌-◌, ◌*◌, ◌/◌, ◌%◌, ◌^◌, List, map, sum_by, take, length, Bool, not, ◌&&◌, ◌||◌, ◌==◌, true, nat_le, nat_lt, ◌<◌, ◌≤◌, Option, None, Some, if◌then◌else◌, slice_index, get_or}
use Rattle.std.specs.List.{range_with_len, list_all}
use Rattle.clr_base.specs.LittleEndian.{number_at, u32_at, u64_at}
use Rattle.cli_tables.specs.declared.schema.CodedIndex.{CodedIndex}
use Rattle.cli_tables.specs.declared.schema.Column.{Column}
use Rattle.cli_tables.specs.declared.schema.Column.TheVariants.{U8, U16, U32, Strings, Guid, Blob, Row, Run, Coded}
use Rattle.cli_tables.specs.Schema.{columns, tables_of, tag_bits}

-- the sum of f over the numbers below n
unfoldable pub sum_below : (ℕ → ℕ) → ℕ → ℕ
sum_below f zero = 0
sum_below f (suc n) = sum_below f n + f n

-- the bits that tell which heap indexes are wide: 1 of `#Strings`, 2 of `#GUID`, 4 of `#Blob`
unfoldable pub heap_sizes : List ℕ → ℕ
heap_sizes stream = slice_index stream 6

-- bit t of a number
unfoldable pub has_bit : ℕ → ℕ → Bool
has_bit n t = n / 2 ^ t % 2 == 1

-- the mask Valid: its bit t is set where the table t is there
unfoldable pub valid : List ℕ → ℕ
valid stream = u64_at stream 8

abbrev pub one_if : Bool → ℕ
one_if b = if b then 1 else 0

-- how many tables with a number below t a mask has
abbrev pub present_in : ℕ → ℕ → ℕ
present_in mask t = sum_below (λ k. one_if (has_bit mask k)) t

-- The counts of rows stand one after the other behind 24 bytes, one for each table that is there. Of a table that isn't,
-- the count is 0.
unfoldable pub row_count : List ℕ → ℕ → ℕ
row_count stream t =
    if nat_lt t 45 && has_bit (valid stream) t then u32_at stream (24 + 4 * present_in (valid stream) t) else 0

-- the counts of all tables
unfoldable pub row_counts : List ℕ → List ℕ
row_counts stream = map (row_count stream) (range_with_len 0 45)

-- where the rows begin: behind the counts
unfoldable pub rows_at : List ℕ → ℕ
rows_at stream = 24 + 4 * present_in (valid stream) 64

-- an index of a heap has 4 bytes where the heap's bit is set
abbrev pub heap_width : ℕ → ℕ → ℕ
heap_width sizes bit = if has_bit sizes bit then 4 else 2

-- an index of a table has 4 bytes where the table has 65,536 rows or more
abbrev pub row_width_of_index : List ℕ → ℕ → ℕ
row_width_of_index counts table = if nat_lt (slice_index counts table) 65536 then 2 else 4

-- a coded index has 4 bytes where one of its tables has too many rows for what the tag leaves of 16 bits
abbrev pub fits_coded : List ℕ → ℕ → Option ℕ → Bool
fits_coded counts bits None = true
fits_coded counts bits (Some table) = nat_lt (slice_index counts table) (2 ^ (16 - bits))

abbrev pub coded_width : List ℕ → CodedIndex → ℕ
coded_width counts coded = if list_all (fits_coded counts (tag_bits coded)) (tables_of coded) then 2 else 4

-- the width of a column in bytes, where the tables have these counts of rows
unfoldable pub width : List ℕ → ℕ → Column → ℕ
width counts sizes U8 = 1
width counts sizes U16 = 2
width counts sizes U32 = 4
width counts sizes Strings = heap_width sizes 0
width counts sizes Guid = heap_width sizes 1
width counts sizes Blob = heap_width sizes 2
width counts sizes (Row table) = row_width_of_index counts table
width counts sizes (Run table) = row_width_of_index counts table
width counts sizes (Coded coded) = coded_width counts coded

-- the width of some columns
unfoldable pub widths : List ℕ → ℕ → List Column → ℕ
widths counts sizes cs = sum_by (width counts sizes) cs

-- the width of a row of a table
abbrev pub row_width : List ℕ → ℕ → ℕ → ℕ
row_width counts sizes t = widths counts sizes (columns t)

-- where a table begins: behind the rows of each table with a smaller number
unfoldable pub start : List ℕ → ℕ → ℕ
start stream t = rows_at stream + sum_below (λ k. row_count stream k * row_width (row_counts stream) (heap_sizes stream) k) t

-- where a column begins in a row
unfoldable pub offset : List ℕ → ℕ → ℕ → ℕ
offset stream t c = widths (row_counts stream) (heap_sizes stream) (take c (columns t))

-- the width of a column by its number, from 0
unfoldable pub column_width : List ℕ → ℕ → ℕ → ℕ
column_width stream t c = get_or (map (width (row_counts stream) (heap_sizes stream)) (columns t)) c 0

-- where a cell stands: its row is counted from 1, and its column from 0
unfoldable pub cell_at : List ℕ → ℕ → ℕ → ℕ → ℕ
cell_at stream t r c = start stream t + (r - 1) * row_width (row_counts stream) (heap_sizes stream) t + offset stream t c

-- the number in a cell
unfoldable pub cell : List ℕ → ℕ → ℕ → ℕ → ℕ
cell stream t r c = number_at (column_width stream t c) stream (cell_at stream t r c)

-- a column has 1, 2 or 4 bytes
abbrev pub is_read_width : ℕ → Bool
is_read_width bytes = bytes == 1 || bytes == 2 || bytes == 4

-- a cell that exists: its row and its column do
pub record IsCell (stream : List ℕ) (t r c : ℕ) : Type 0 where
  pub first : 1 ≤ r
  pub last : r ≤ row_count stream t
  pub column : c < length (columns t)

-- the table is one of the schema's
abbrev pub is_known : ℕ → Bool
is_known t = nat_lt 0 (length (columns t))

-- a count that a table may have
abbrev pub is_few : ℕ → Bool
is_few rows = nat_le rows 16777215

-- what a mask has, the schema has
abbrev pub absent_or_known : ℕ → ℕ → Bool
absent_or_known mask t = not (has_bit mask t) || is_known t

-- the stream is whole, and has nothing that the schema doesn't know
unfoldable pub are_tables : List ℕ → Bool
are_tables stream =
    nat_le 24 (length stream)
    && nat_lt (heap_sizes stream) 8
    && list_all (absent_or_known (valid stream)) (range_with_len 0 64)
    && nat_le (rows_at stream) (length stream)
    && list_all is_few (row_counts stream)
    && nat_le (start stream 45) (length stream)
