-- The cells that are written are read as they are, and the stream `#~` is whole.
use Rattle.std.proofs.Common.{◌≡◌, ℕ, zero, suc, ◌+◌, ◌-◌, ◌*◌, ◌^◌, ◌<◌, ◌≤◌, List, length, map, take, get_or, Bool, true, false, ◌&&◌, ◌||◌, ◌==◌, not, nat_lt, nat_le, if◌then◌else◌, eqb-true, refl, sym, ◌∙◌, ap, ap₂, arith, None, ◌⊎◌, inl, inr}
use Rattle.std.proofs.lemmas.Bool.{leb-true, le-leb, lt-leb}
use Rattle.std.specs.List.{list_all, range_with_len}
use Rattle.clr_base.specs.LittleEndian.{number_at}
use Rattle.cli_tables.specs.Layout.{sum_below, has_bit, heap_sizes, row_count, row_counts, rows_at, row_width, start, width, widths, offset, cell_at, are_tables, absent_or_known, is_known, is_few}
use Rattle.cli_tables.specs.Layout as layout
use Rattle.cli_tables.specs.Schema.{columns}
use Rattle.image_write.specs.declared.draft.Draft.{Draft}
use Rattle.image_write.specs.Drafts.{column_count, rows, has_rows, counts, heap_bits, row_len, cell, column_width}
use Rattle.image_write.specs.Fitting.{fits, cell_fits, crowded}
use Rattle.image_write.specs.Image.{is_rva, rva_of, bodies_rva, written, cell_bytes, row_bytes, table_bytes, tables}
use Rattle.image_write.specs.Lengths.{present_below, rows_len_below, tables_len, image_len}
use Rattle.image_write.specs.Pieces.{joined}
use Rattle.image_write.proofs.Fitted.{short, cells_fit, few_rows}
use Rattle.image_write.proofs.Found.{At, at_inside, at_place, at_joined, number_found}
use Rattle.image_write.proofs.Shortness.{no_rows, rounded_holds}
use Rattle.image_write.proofs.TablesRead.{stream, sizes_read, bit_read, bit_past, rows_at_read, at_rows, counts_read, row_width_read, start_read, bits_small}
use Rattle.image_write.proofs.WrittenLengths.{length-joined, length-bytes_of, length-row, length-rows, length-tables, length-padded, sum_same, sum_of_one, widths_below}

-- where a cell stands
at_cell : (draft : Draft) (t r c : ℕ) → t < 45 → r < rows draft t → c < column_count t
    → At (stream draft) (24 + 4 * present_below draft 45 + rows_len_below draft t + (r * row_len draft t + widths (counts draft) (heap_bits draft) (take c (columns t))))
    (cell_bytes draft t r c)
unfolding table_bytes row_bytes cell_bytes
at_cell draft t r c known row column =
    let in_table = at_joined (table_bytes draft) 45 t known in
    let in_rows = at_joined (row_bytes draft t) (rows draft t) r row in
    let in_row = at_joined (cell_bytes draft t r) (column_count t) c column in
    let before_table : sum_below (λ k. length (table_bytes draft k)) t ≡ rows_len_below draft t =
    sym (length-joined (table_bytes draft) t) ∙ length-rows draft t in
    let before_row : sum_below (λ k. length (row_bytes draft t k)) r ≡ r * row_len draft t =
    sum_same (λ k. length (row_bytes draft t k)) (λ _. row_len draft t) r (λ k below. length-row draft t k) ∙ sum_of_one (row_len draft t) r in
    let before_cell : sum_below (λ k. length (cell_bytes draft t r k)) c ≡ widths (counts draft) (heap_bits draft) (take c (columns t)) =
    sum_same (λ k. length (cell_bytes draft t r k)) (column_width draft t) c (λ k below. length-bytes_of (column_width draft t k) (written draft t r k))
    ∙ widths_below draft t c (omega arith) in
    let inner = at_inside (table_bytes draft t) (row_bytes draft t r) (cell_bytes draft t r c) _ _ in_rows in_row in
    let outer = at_inside (joined 45 (table_bytes draft)) (table_bytes draft t) (cell_bytes draft t r c) _ _ in_table inner in
    at_place _ _ _ _ (omega (arith, before_table, before_row, before_cell))
    (at_inside (stream draft) (joined 45 (table_bytes draft)) (cell_bytes draft t r c) _ _ (at_rows draft) outer)

column_width_read : (draft : Draft) (t c : ℕ) → image_len draft < 2 ^ 31 → layout.column_width (stream draft) t c ≡ column_width draft t c
unfolding layout.column_width column_width
column_width_read draft t c near =
    ap₂ (λ (cs : List ℕ) (bits : ℕ). get_or (map (width cs bits) (columns t)) c 0) (counts_read draft near) (sizes_read draft)

place_read : (draft : Draft) (t r c : ℕ) → image_len draft < 2 ^ 31 → t < 45
    → cell_at (stream draft) t (r + 1) c
    ≡ 24 + 4 * present_below draft 45 + rows_len_below draft t + (r * row_len draft t + widths (counts draft) (heap_bits draft) (take c (columns t)))
unfolding cell_at offset
place_read draft t r c near known =
    let begins = start_read draft t near (omega arith) in
    let row : (r + 1 - 1) * row_width (row_counts (stream draft)) (heap_sizes (stream draft)) t ≡ r * row_len draft t =
    ap₂ (λ (a b : ℕ). a * b) (let e : r + 1 - 1 ≡ r = omega arith in e) (row_width_read draft t near) in
    let column : widths (row_counts (stream draft)) (heap_sizes (stream draft)) (take c (columns t)) ≡ widths (counts draft) (heap_bits draft) (take c (columns t)) =
    ap₂ (λ (cs : List ℕ) (bits : ℕ). widths cs bits (take c (columns t))) (counts_read draft near) (sizes_read draft) in
    omega (arith, begins, row, column)

-- what is written fits its column. An RVA has four bytes.
rva_width : (draft : Draft) (t c : ℕ) → is_rva t c ≡ true → column_width draft t c ≡ 4
unfolding column_width columns width
rva_width draft t c rva = by_tests t c (c == 0) refl (t == 0x06) refl (t == 0x1d) refl rva
  where
    by_tests : (t c : ℕ) (x : Bool) → (c == 0) ≡ x → (y : Bool) → (t == 0x06) ≡ y → (z : Bool) → (t == 0x1d) ≡ z → (x && (y || z)) ≡ true
        → get_or (map (width (counts draft) (heap_bits draft)) (columns t)) c 0 ≡ 4
    by_tests t c true first true method z field h =
        let column = eqb-true c 0 first in let table = eqb-true t 0x06 method in rw (column, table) refl
    by_tests t c true first false method true field h =
        let column = eqb-true c 0 first in let table = eqb-true t 0x1d field in rw (column, table) refl
    by_tests t c true first false method false field h = absurd (cc)
    by_tests t c false first y method z field h = absurd (cc)

rva_small : (draft : Draft) (v : ℕ) → image_len draft < 2 ^ 31 → v ≤ length draft.bodies → rva_of draft v < 256 ^ 4
rva_small draft v near within = by_test (v == 0)
  where
    by_test : (b : Bool) → (if b then 0 else bodies_rva draft + (v - 1)) < 256 ^ 4
    by_test true = omega arith
    by_test false = omega arith

written_if : (draft : Draft) (t r c : ℕ) (b : Bool) → is_rva t c ≡ b → image_len draft < 2 ^ 31
    → (if b then nat_le (cell draft t r c) (length draft.bodies) else nat_lt (cell draft t r c) (256 ^ column_width draft t c)) ≡ true
    → (if b then rva_of draft (cell draft t r c) else cell draft t r c) < 256 ^ column_width draft t c
written_if draft t r c true rva near fit =
    let small = rva_small draft (cell draft t r c) near (leb-true _ _ fit) in
    rw (rva_width draft t c rva) small
written_if draft t r c false rva near fit = leb-true _ _ fit

pub written_fits : (draft : Draft) (t r c : ℕ) → fits draft ≡ true → t < 45 → r < rows draft t → c < column_count t
    → written draft t r c < 256 ^ column_width draft t c
unfolding written cell_fits
written_fits draft t r c fit known row column =
    written_if draft t r c (is_rva t c) refl (short draft fit) (cells_fit draft t r c fit known row column)

pub cell_read : (draft : Draft) (t r c : ℕ) → fits draft ≡ true → t < 45 → r < rows draft t → c < column_count t
    → layout.cell (stream draft) t (r + 1) c ≡ written draft t r c
unfolding layout.cell cell_bytes
cell_read draft t r c fit known row column =
    let near = short draft fit in
    ap₂ (λ (w p : ℕ). number_at w (stream draft) p) (column_width_read draft t c near) (place_read draft t r c near known)
    ∙ number_found (stream draft) _ (column_width draft t c) (written draft t r c) (at_cell draft t r c known row column) (written_fits draft t r c fit known row column)

-- the stream is whole
all_of : (p : ℕ → Bool) (a n : ℕ) → ((k : ℕ) → p k ≡ true) → list_all p (range_with_len a n) ≡ true
all_of p a zero all = refl
all_of p a (suc n) all = rw (all a) (all_of p (a + 1) n all)

none_when : (n : ℕ) → nat_lt 0 n ≡ false → n ≡ 0
none_when zero h = refl
none_when (suc n) h = absurd (let some = le-leb 1 (suc n) (omega arith) in cc)

known_by : (draft : Draft) (t : ℕ) (b c : Bool) → has_rows draft t ≡ b → nat_lt 0 (column_count t) ≡ c → (not b || c) ≡ true
known_by draft t false c some e = refl
known_by draft t true true some e = refl
known_by draft t true false some e =
    let none = no_rows draft t (none_when (column_count t) e) in
    absurd (let h : nat_lt 0 (rows draft t) ≡ false = lt-leb 1 (rows draft t) (omega arith) in cc)

past_or_below : (t : ℕ) → (t < 45) ⊎ (45 ≤ t)
past_or_below t = grind arith

table_known : (draft : Draft) (t : ℕ) → absent_or_known (layout.valid (stream draft)) t ≡ true
table_known draft t =
    elim (past_or_below t) [
      | inl below ↦ rw (bit_read draft t below) (known_by draft t (has_rows draft t) (nat_lt 0 (column_count t)) refl refl)
      | inr past ↦ rw (bit_past draft t past) refl
    ]

not_less : (n : ℕ) → nat_lt 16777215 n ≡ false → nat_le n 16777215 ≡ true
not_less n h = by_order (either n)
  where
    either : (n : ℕ) → (n ≤ 16777215) ⊎ (16777215 < n)
    either n = grind arith

    by_order : (n ≤ 16777215) ⊎ (16777215 < n) → nat_le n 16777215 ≡ true
    by_order (inl less) = le-leb n 16777215 less
    by_order (inr more) = absurd (let h' = le-leb (suc 16777215) n more in cc)

all_map : (p : ℕ → Bool) (f : ℕ → ℕ) (a n : ℕ) → ((k : ℕ) → a ≤ k → k < a + n → p (f k) ≡ true) → list_all p (map f (range_with_len a n)) ≡ true
all_map p f a zero all = refl
all_map p f a (suc n) all = rw (all a (omega arith) (omega arith)) (all_map p f (a + 1) n (λ k low high. all k (omega arith) (omega arith)))

rows_all_few : (draft : Draft) → image_len draft < 2 ^ 31 → crowded draft ≡ None → list_all is_few (row_counts (stream draft)) ≡ true
unfolding counts
rows_all_few draft near none =
    ap (list_all is_few) (counts_read draft near)
    ∙ all_map is_few (rows draft) 0 45 (λ k low high. not_less (rows draft k) (few_rows draft k none (omega arith)))

pub stream_whole : (draft : Draft) → fits draft ≡ true → crowded draft ≡ None → are_tables (stream draft) ≡ true
unfolding are_tables tables_len
stream_whole draft fit none =
    let near = short draft fit in
    let len : tables_len draft ≤ length (stream draft) =
    omega (arith, length-padded (tables draft), length-tables draft, rounded_holds (length (tables draft))) in
    let header = le-leb 24 (length (stream draft)) (omega arith) in
    let bits = bits_small draft in
    let sizes = le-leb (suc (heap_sizes (stream draft))) 8 (omega (arith, sizes_read draft)) in
    let at = le-leb (rows_at (stream draft)) (length (stream draft)) (omega (arith, rows_at_read draft)) in
    let ends = le-leb (start (stream draft) 45) (length (stream draft)) (omega (arith, start_read draft 45 near (omega arith))) in
    rw (header, sizes, all_of (absent_or_known (layout.valid (stream draft))) 0 64 (table_known draft), at, rows_all_few draft near none, ends) refl
