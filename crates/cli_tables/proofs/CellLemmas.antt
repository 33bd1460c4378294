-- A cell lies in the stream, and has 1, 2 or 4 bytes.
use Rattle.std.proofs.Common.{◌≡◌, ℕ, ◌+◌, ◌-◌, ◌*◌, ◌<◌, ◌≤◌, List, [], Bool, true, false, cond, length, map, get_or, refl, ap, arith, ◌⊎◌, inl, inr, nat_lt, slice_index}
use Rattle.std.proofs.Math.Nat.{mul-le-mul_right, add-mul}
use Rattle.std.proofs.Math.ListN.{get_or-eq_default}
use Rattle.std.proofs.lemmas.Bool.{leb-true, lt-leb}
use Rattle.std.proofs.lemmas.List.{get_or-map}
use Rattle.std.proofs.lemmas.List.Sums.{sum_by_more_le}
use Rattle.std.specs.List.{list_all}
use Rattle.cli_tables.specs.declared.schema.Column.{Column}
use Rattle.cli_tables.specs.declared.schema.Column.TheVariants.{U8, U16, U32, Strings, Guid, Blob, Row, Run, Coded}
use Rattle.cli_tables.specs.declared.schema.TheConstants.{TABLES}
use Rattle.cli_tables.specs.declared.layout.CellPlace.{CellPlace}
use Rattle.cli_tables.specs.declared.layout.TablePlace.{TablePlace}
use Rattle.cli_tables.specs.Schema.{columns, tables_of, tag_bits}
use Rattle.cli_tables.specs.Layout.{width, widths, row_count, row_counts, heap_sizes, row_width, start, offset, column_width, cell_at, is_read_width, are_tables, has_bit, fits_coded, is_few, IsCell}
use Rattle.cli_tables.specs.Places.{IsTablePlace}
use Rattle.cli_tables.proofs.Counts.{few_at}
use Rattle.cli_tables.proofs.Placing.{start_next}
use Rattle.cli_tables.proofs.SchemaFacts.{first_of_both, last_of_both, short}
use Rattle.cli_tables.proofs.Sums.{sum_below_grows}

four_or_two : (b : Bool) → is_read_width (cond b 4 2) ≡ true
four_or_two true = refl
four_or_two false = refl

two_or_four : (b : Bool) → is_read_width (cond b 2 4) ≡ true
two_or_four true = refl
two_or_four false = refl

pub width_reads : (counts : List ℕ) (sizes : ℕ) (column : Column) → is_read_width (width counts sizes column) ≡ true
unfolding width
width_reads counts sizes U8 = refl
width_reads counts sizes U16 = refl
width_reads counts sizes U32 = refl
width_reads counts sizes Strings = four_or_two (has_bit sizes 0)
width_reads counts sizes Guid = four_or_two (has_bit sizes 1)
width_reads counts sizes Blob = four_or_two (has_bit sizes 2)
width_reads counts sizes (Row table) = two_or_four (nat_lt (slice_index counts table) 65536)
width_reads counts sizes (Run table) = two_or_four (nat_lt (slice_index counts table) 65536)
width_reads counts sizes (Coded coded) = two_or_four (list_all (fits_coded counts (tag_bits coded)) (tables_of coded))

-- the width of a column that is there
column_width_is : (stream : List ℕ) (t c : ℕ) → c < length (columns t)
    → column_width stream t c ≡ width (row_counts stream) (heap_sizes stream) (get_or (columns t) c U8)
unfolding column_width
column_width_is stream t c within = get_or-map (width (row_counts stream) (heap_sizes stream)) (columns t) c U8 0 within

pub reads : (stream : List ℕ) (t c : ℕ) → c < length (columns t) → is_read_width (column_width stream t c) ≡ true
reads stream t c within = rw (column_width_is stream t c within) (width_reads (row_counts stream) (heap_sizes stream) (get_or (columns t) c U8))

-- a column lies in the row
in_row : (stream : List ℕ) (t c : ℕ) → c < length (columns t)
    → offset stream t c + column_width stream t c ≤ row_width (row_counts stream) (heap_sizes stream) t
unfolding offset widths
in_row stream t c within =
    rw (column_width_is stream t c within) (sum_by_more_le (width (row_counts stream) (heap_sizes stream)) (columns t) c U8 within)

below_or_past : (t : ℕ) → (t < 45) ⊎ (45 ≤ t)
below_or_past t = grind arith

-- only a table of the schema has columns
pub known : (t c : ℕ) → c < length (columns t) → t < 45
unfolding columns
known t c within =
    elim (below_or_past t) [
      | inl below ↦ below
      | inr past ↦ let none : get_or (map (λ x. x.now) TABLES) t [] ≡ [] = get_or-eq_default (map (λ x. x.now) TABLES) [] past in
          absurd (omega (arith, ap length none))
    ]

-- a row lies in its table, and the table in the stream
rows_end : (stream : List ℕ) (t : ℕ) → t < 45 → start stream (t + 1) ≤ start stream 45
unfolding start
rows_end stream t below =
    let grows = sum_below_grows (λ k. row_count stream k * row_width (row_counts stream) (heap_sizes stream) k) (t + 1) 45 (omega arith) in
    omega arith

end_inside : (stream : List ℕ) → are_tables stream ≡ true → start stream 45 ≤ length stream
unfolding are_tables
end_inside stream whole = leb-true _ _ (last_of_both _ _ whole)

pub inside : (stream : List ℕ) (t r c : ℕ) → are_tables stream ≡ true → IsCell stream t r c
    → cell_at stream t r c + column_width stream t c ≤ length stream
unfolding cell_at
inside stream t r c whole is =
    let row = row_width (row_counts stream) (heap_sizes stream) t in
    let column = in_row stream t c is.column in
    let below = known t c is.column in
    let end = rows_end stream t below in
    let next = start_next stream t in
    let all = end_inside stream whole in
    let rows : (r - 1 + 1) * row ≤ row_count stream t * row = mul-le-mul_right row (omega arith) in
    let one : (r - 1 + 1) * row ≡ (r - 1) * row + 1 * row = add-mul (r - 1) 1 row in
    omega arith

-- what the places tell of a cell
pub record CellFound (stream : List ℕ) (place : TablePlace) (t r c : ℕ) (d : CellPlace) : Type 0 where
  pub at : place.start + (r - 1) * place.row_width + (get_or place.cells c d).offset ≡ cell_at stream t r c
  pub wide : (get_or place.cells c d).width ≡ column_width stream t c
  pub few : c < 9

pub cell_found : (stream : List ℕ) (place : TablePlace) (t r c : ℕ) (d : CellPlace) → IsTablePlace stream t place → IsCell stream t r c
    → CellFound stream place t r c d
unfolding cell_at offset column_width
cell_found stream place t r c d is cell_is =
    let here = is.cells c d cell_is.column in
    let rows : (r - 1) * place.row_width ≡ (r - 1) * row_width (row_counts stream) (heap_sizes stream) t = ap (λ (w : ℕ). (r - 1) * w) is.wide in
    let before = ap (λ (p : CellPlace). p.offset) here in
    let columns_few = short t in
    record {
      at = omega (arith, is.begins, rows, before);
      wide = ap (λ (p : CellPlace). p.width) here;
      few = omega (arith, cell_is.column, columns_few);
    }

counts_few : (stream : List ℕ) → are_tables stream ≡ true → list_all is_few (row_counts stream) ≡ true
unfolding are_tables
counts_few stream whole = last_of_both _ _ (first_of_both _ _ whole)

no_rows : (stream : List ℕ) (t : ℕ) → 45 ≤ t → row_count stream t ≤ 16777215
unfolding row_count
no_rows stream t past = let test : nat_lt t 45 ≡ false = lt-leb _ _ (omega arith) in rw test (omega arith)

-- a table has at most 16,777,215 rows
pub rows_few : (stream : List ℕ) (t : ℕ) → are_tables stream ≡ true → row_count stream t ≤ 16777215
rows_few stream t whole =
    elim (below_or_past t) [
      | inl below ↦ few_at stream t below (counts_few stream whole)
      | inr past ↦ no_rows stream t past
    ]
