-- How long what is written is.
use Rattle.std.proofs.Common.{◌≡◌, ℕ, zero, suc, ◌+◌, ◌-◌, ◌*◌, ◌<◌, ◌≤◌, List, [], ◌∷◌, ◌++◌, length, take, get_or, Bool, true, false, ◌==◌, refl, ◌∙◌, ap, ap₂, arith, length-append, add-one, if◌then◌else◌}
use Rattle.std.proofs.Math.Nat.{suc-mul, mul-add}
use Rattle.std.proofs.lemmas.List.{length-replicate, get_or-map, take_all}
use Rattle.std.proofs.lemmas.List.Sums.{sum_by_more}
use Rattle.std.specs.List.{sum_by}
use Rattle.byteorder.specs.Numbers.{length-bytes_low_first}
use Rattle.cli_tables.specs.Layout.{sum_below, width, widths, one_if}
use Rattle.cli_tables.specs.Schema.{columns}
use Rattle.cli_tables.specs.declared.schema.Column.{Column}
use Rattle.cli_tables.specs.declared.schema.Column.TheVariants.{U8}
use Rattle.image_write.specs.declared.draft.Draft.{Draft}
use Rattle.image_write.specs.declared.pieces.Field.{Field}
use Rattle.image_write.specs.Drafts.{column_count, rows, has_rows, counts, heap_bits, valid, column_width, row_len}
use Rattle.image_write.specs.Image.{cell_bytes, row_bytes, table_bytes, count_bytes, tables_header, tables, written}
use Rattle.image_write.specs.Lengths.{present_below, rows_len_below, tables_len, filled_len}
use Rattle.image_write.specs.Pieces.{bytes_of, zeros, rounded, padded, filled, structure, joined}

pub length-bytes_of : (n x : ℕ) → length (bytes_of n x) ≡ n
unfolding bytes_of
length-bytes_of n x = length-bytes_low_first 0 n x

pub length-zeros : (n : ℕ) → length (zeros n) ≡ n
unfolding zeros
length-zeros n = length-replicate n 0

pub length-padded : (xs : List ℕ) → length (padded xs) ≡ rounded (length xs)
unfolding padded
length-padded xs = omega (arith, length-append xs (zeros (rounded (length xs) - length xs)), length-zeros (rounded (length xs) - length xs))

pub length-filled : (xs : List ℕ) → length (filled xs) ≡ filled_len (length xs)
unfolding filled filled_len
length-filled xs = by_test (length xs == 0)
  where
    by_test : (b : Bool) → length (if b then zeros 4 else padded xs) ≡ (if b then 4 else rounded (length xs))
    by_test true = length-zeros 4
    by_test false = length-padded xs

pub length-joined : (f : ℕ → List ℕ) (n : ℕ) → length (joined n f) ≡ sum_below (λ k. length (f k)) n
unfolding joined sum_below
length-joined f zero = refl
length-joined f (suc n) = length-append (joined n f) (f n) ∙ ap (λ (m : ℕ). m + length (f n)) (length-joined f n)

-- sums of the same terms
pub sum_same : (f g : ℕ → ℕ) (n : ℕ) → ((k : ℕ) → k < n → f k ≡ g k) → sum_below f n ≡ sum_below g n
unfolding sum_below
sum_same f g zero same = refl
sum_same f g (suc n) same = ap₂ (λ (a b : ℕ). a + b) (sum_same f g n (λ k below. same k (omega arith))) (same n (omega arith))

pub sum_of_one : (m n : ℕ) → sum_below (λ _. m) n ≡ n * m
unfolding sum_below
sum_of_one m zero = omega arith
sum_of_one m (suc n) = let rest = sum_of_one m n in let next : suc n * m ≡ n * m + m = suc-mul n m in omega arith

pub sum_times : (m : ℕ) (f : ℕ → ℕ) (n : ℕ) → sum_below (λ k. m * f k) n ≡ m * sum_below f n
unfolding sum_below
sum_times m f zero = omega arith
sum_times m f (suc n) = let rest = sum_times m f n in let more = mul-add m (sum_below f n) (f n) in omega arith

-- the widths of the first columns of a table
pub widths_below : (draft : Draft) (t c : ℕ) → c ≤ column_count t
    → sum_below (column_width draft t) c ≡ widths (counts draft) (heap_bits draft) (take c (columns t))
unfolding sum_below column_width widths
widths_below draft t zero within = refl
widths_below draft t (suc c) within =
    let w : Column → ℕ = width (counts draft) (heap_bits draft) in
    let before = widths_below draft t c (omega arith) in
    let here = get_or-map w (columns t) c U8 0 (omega arith) in
    let more : sum_by w (take (c + 1) (columns t)) ≡ sum_by w (take c (columns t)) + w (get_or (columns t) c U8) = sum_by_more w (columns t) c U8 (omega arith) in
    let next : sum_by w (take (c + 1) (columns t)) ≡ sum_by w (take (suc c) (columns t)) = rw add-one refl in
    omega (arith, before, here, more, next)

pub length-row : (draft : Draft) (t r : ℕ) → length (row_bytes draft t r) ≡ row_len draft t
unfolding row_bytes cell_bytes row_len widths
length-row draft t r =
    length-joined (cell_bytes draft t r) (column_count t)
    ∙ sum_same _ (column_width draft t) (column_count t) (λ c below. length-bytes_of (column_width draft t c) (written draft t r c))
    ∙ widths_below draft t (column_count t) (omega arith)
    ∙ ap (sum_by (width (counts draft) (heap_bits draft))) (take_all (column_count t) (columns t) (omega arith))

pub length-table : (draft : Draft) (t : ℕ) → length (table_bytes draft t) ≡ rows draft t * row_len draft t
unfolding table_bytes
length-table draft t =
    length-joined (row_bytes draft t) (rows draft t)
    ∙ sum_same _ (λ _. row_len draft t) (rows draft t) (λ r below. length-row draft t r)
    ∙ sum_of_one (row_len draft t) (rows draft t)

length-count_if : (b : Bool) (n : ℕ) → length (if b then bytes_of 4 n else []) ≡ 4 * one_if b
length-count_if true n = length-bytes_of 4 n
length-count_if false n = refl

pub length-count : (draft : Draft) (t : ℕ) → length (count_bytes draft t) ≡ 4 * one_if (has_rows draft t)
unfolding count_bytes
length-count draft t = length-count_if (has_rows draft t) (rows draft t)

pub length-counts : (draft : Draft) (n : ℕ) → length (joined n (count_bytes draft)) ≡ 4 * present_below draft n
unfolding present_below
length-counts draft n =
    length-joined (count_bytes draft) n
    ∙ sum_same _ (λ t. 4 * one_if (has_rows draft t)) n (λ t below. length-count draft t)
    ∙ sum_times 4 (λ t. one_if (has_rows draft t)) n

pub length-rows : (draft : Draft) (n : ℕ) → length (joined n (table_bytes draft)) ≡ rows_len_below draft n
unfolding rows_len_below
length-rows draft n =
    length-joined (table_bytes draft) n
    ∙ sum_same _ (λ t. rows draft t * row_len draft t) n (λ t below. length-table draft t)

-- a structure of some fields is as long as they need, or as its end says
unfoldable pub structure_len : ℕ → ℕ → List Field → ℕ
structure_len from end [] = end - from
structure_len from end (f ∷ fs) = (f.at - from) + (f.width + structure_len (f.at + f.width) end fs)

pub length-structure : (from end : ℕ) (fs : List Field) → length (structure from end fs) ≡ structure_len from end fs
unfolding structure structure_len
length-structure from end [] = length-zeros (end - from)
length-structure from end (f ∷ fs) =
    length-append (zeros (f.at - from)) (bytes_of f.width f.value ++ structure (f.at + f.width) end fs)
    ∙ ap₂ (λ (a b : ℕ). a + b) (length-zeros (f.at - from))
    (length-append (bytes_of f.width f.value) (structure (f.at + f.width) end fs)
    ∙ ap₂ (λ (a b : ℕ). a + b) (length-bytes_of f.width f.value) (length-structure (f.at + f.width) end fs))

pub length-tables_header : (bits mask : ℕ) → length (tables_header bits mask) ≡ 24
unfolding tables_header structure_len
length-tables_header bits mask = length-structure 0 24 _

pub length-tables : (draft : Draft) → length (tables draft) ≡ tables_len draft
unfolding tables tables_len
length-tables draft =
    let head = length-tables_header (heap_bits draft) (valid draft) in
    let counts_len = length-counts draft 45 in
    let rows_len = length-rows draft 45 in
    let whole = length-append (tables_header (heap_bits draft) (valid draft)) (joined 45 (count_bytes draft) ++ joined 45 (table_bytes draft)) in
    let behind = length-append (joined 45 (count_bytes draft)) (joined 45 (table_bytes draft)) in
    omega arith
