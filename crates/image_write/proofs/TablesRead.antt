-- The stream `#~` that is written is read as it is: which tables have rows, how many, how wide, and where they begin.
use Rattle.std.proofs.Common.{◌≡◌, ℕ, zero, suc, ◌+◌, ◌-◌, ◌*◌, ◌^◌, ◌<◌, ◌≤◌, List, [], ◌∷◌, ◌++◌, length, map, get_or, slice_index, Bool, true, false, ◌&&◌, nat_lt, if◌then◌else◌, refl, sym, ◌∙◌, ap, ap₂, arith}
use Rattle.std.proofs.lemmas.Bool.{le-leb, lt-leb}
use Rattle.std.proofs.lemmas.List.FromFn.{length-map-range_with_len, get_or-map-range_with_len}
use Rattle.std.proofs.lemmas.List.{ext_get_or}
use Rattle.std.specs.List.{range_with_len}
use Rattle.clr_base.specs.LittleEndian.{number_at, u32_at}
use Rattle.cli_tables.specs.Layout.{sum_below, one_if, has_bit, heap_sizes, row_count, row_counts, rows_at, present_in, row_width, start, widths}
use Rattle.cli_tables.specs.Layout as layout
use Rattle.cli_tables.specs.Schema.{columns}
use Rattle.image_write.specs.declared.draft.Draft.{Draft}
use Rattle.image_write.specs.declared.pieces.Field.{Field}
use Rattle.image_write.specs.Drafts.{rows, has_rows, counts, is_wide, heap_bits, valid, row_len}
use Rattle.image_write.specs.Image.{count_bytes, table_bytes, tables_header, tables}
use Rattle.image_write.specs.Lengths.{present_below, rows_len_below, image_len}
use Rattle.image_write.specs.Pieces.{bytes_of, zeros, rounded, padded, field, structure, joined}
use Rattle.image_write.proofs.Bits.{bit_of, mask_small}
use Rattle.image_write.proofs.Found.{At, at_whole, at_front, at_more, at_behind, at_inside, at_place, at_joined, at_field, number_found, ordered}
use Rattle.image_write.proofs.Shortness.{rows_few}
use Rattle.image_write.proofs.Sizes.{one_small}
use Rattle.image_write.proofs.WrittenLengths.{length-tables_header, length-joined, length-counts, sum_same}

-- the stream, as it stands in the metadata
abbrev pub stream : Draft → List ℕ
stream draft = padded (tables draft)

-- a part of the content is a part of the stream
in_stream : (draft : Draft) (part : List ℕ) (p : ℕ) → At (tables draft) p part → At (stream draft) p part
unfolding padded
in_stream draft part p a = at_more (tables draft) part (zeros (rounded (length (tables draft)) - length (tables draft))) p a

header_fields : ℕ → ℕ → List Field
header_fields bits mask = field 4 1 2 ∷ field 6 1 bits ∷ field 7 1 1 ∷ field 8 8 mask ∷ []

at_header : (draft : Draft) (i : ℕ) → i < 4
    → At (stream draft) (get_or (header_fields (heap_bits draft) (valid draft)) i (field 0 0 0)).at
    (bytes_of (get_or (header_fields (heap_bits draft) (valid draft)) i (field 0 0 0)).width (get_or (header_fields (heap_bits draft) (valid draft)) i (field 0 0 0)).value)
unfolding tables tables_header header_fields ordered
at_header draft i within =
    let fs : List Field = field 4 1 2 ∷ field 6 1 (heap_bits draft) ∷ field 7 1 1 ∷ field 8 8 (valid draft) ∷ [] in
    in_stream draft _ _ (at_more (structure 0 24 fs) _ (joined 45 (count_bytes draft) ++ joined 45 (table_bytes draft)) _ (at_field 24 fs i (field 0 0 0) refl within))

pub bits_small : (draft : Draft) → heap_bits draft < 8
unfolding heap_bits
bits_small draft =
    let a = one_small (is_wide draft.heap_sizes 0 draft.strings) in
    let b = one_small (is_wide draft.heap_sizes 1 draft.guids) in
    let d = one_small (is_wide draft.heap_sizes 2 draft.blobs) in
    omega arith

one_byte : (xs : List ℕ) (p : ℕ) → slice_index xs p ≡ number_at 1 xs p
unfolding number_at
one_byte xs p = omega arith

pub sizes_read : (draft : Draft) → heap_sizes (stream draft) ≡ heap_bits draft
unfolding heap_sizes header_fields
sizes_read draft =
    let small = bits_small draft in
    one_byte (stream draft) 6 ∙ number_found (stream draft) 6 1 (heap_bits draft) (at_header draft 1 (omega arith)) (omega arith)

pub valid_read : (draft : Draft) → layout.valid (stream draft) ≡ valid draft
unfolding layout.valid header_fields
valid_read draft =
    let small = mask_small draft 45 in
    number_found (stream draft) 8 8 (valid draft) (at_header draft 3 (omega arith)) (omega arith)

pub bit_read : (draft : Draft) (t : ℕ) → t < 45 → has_bit (layout.valid (stream draft)) t ≡ has_rows draft t
bit_read draft t known =
    ap (λ (m : ℕ). has_bit m t) (valid_read draft) ∙ bit_of draft 45 t
    ∙ ap (λ (b : Bool). b && has_rows draft t) (le-leb (suc t) 45 known)

pub bit_past : (draft : Draft) (t : ℕ) → 45 ≤ t → has_bit (layout.valid (stream draft)) t ≡ false
bit_past draft t past =
    ap (λ (m : ℕ). has_bit m t) (valid_read draft) ∙ bit_of draft 45 t
    ∙ ap (λ (b : Bool). b && has_rows draft t) (lt-leb (suc t) 45 (omega arith))

pub present_read : (draft : Draft) (n : ℕ) → n ≤ 45 → present_in (layout.valid (stream draft)) n ≡ present_below draft n
unfolding present_below
present_read draft n within =
    sum_same (λ k. one_if (has_bit (layout.valid (stream draft)) k)) (λ k. one_if (has_rows draft k)) n
    (λ k below. ap one_if (bit_read draft k (omega arith)))

sum_flat : (f : ℕ → ℕ) (n m : ℕ) → ((k : ℕ) → n ≤ k → f k ≡ 0) → sum_below f (m + n) ≡ sum_below f n
unfolding sum_below
sum_flat f n zero flat = let e : 0 + n ≡ n = omega arith in ap (λ (k : ℕ). sum_below f k) e
sum_flat f n (suc m) flat =
    let e : suc m + n ≡ suc (m + n) = omega arith in
    let more : sum_below f (m + n) + f (m + n) ≡ sum_below f n = omega (arith, sum_flat f n m flat, flat (m + n) (omega arith)) in
    ap (λ (k : ℕ). sum_below f k) e ∙ more

pub rows_at_read : (draft : Draft) → rows_at (stream draft) ≡ 24 + 4 * present_below draft 45
unfolding rows_at
rows_at_read draft =
    let flat = sum_flat (λ k. one_if (has_bit (layout.valid (stream draft)) k)) 45 19 (λ k past. ap one_if (bit_past draft k past)) in
    ap (λ (n : ℕ). 24 + 4 * n) (flat ∙ present_read draft 45 (omega arith))

-- where the counts and the rows of the tables stand
at_counts : (draft : Draft) → At (stream draft) 24 (joined 45 (count_bytes draft))
unfolding tables
at_counts draft =
    let head = tables_header (heap_bits draft) (valid draft) in
    let place : length head + 0 ≡ 24 = omega (arith, length-tables_header (heap_bits draft) (valid draft)) in
    in_stream draft _ _
    (at_place _ _ _ _ place (at_behind head _ (joined 45 (count_bytes draft)) 0 (at_front (joined 45 (count_bytes draft)) (joined 45 (table_bytes draft)))))

pub at_rows : (draft : Draft) → At (stream draft) (24 + 4 * present_below draft 45) (joined 45 (table_bytes draft))
unfolding tables
at_rows draft =
    let head = tables_header (heap_bits draft) (valid draft) in
    let cs = joined 45 (count_bytes draft) in
    let ts = joined 45 (table_bytes draft) in
    let place : length head + (length cs + 0) ≡ 24 + 4 * present_below draft 45 =
    omega (arith, length-tables_header (heap_bits draft) (valid draft), length-counts draft 45) in
    in_stream draft _ _ (at_place _ _ _ _ place (at_behind head (cs ++ ts) ts _ (at_behind cs ts ts 0 (at_whole ts))))

at_count : (draft : Draft) (t : ℕ) → t < 45 → At (stream draft) (24 + 4 * present_below draft t) (count_bytes draft t)
at_count draft t known =
    let place : 24 + sum_below (λ k. length (count_bytes draft k)) t ≡ 24 + 4 * present_below draft t =
    omega (arith, length-joined (count_bytes draft) t, length-counts draft t) in
    at_place _ _ _ _ place (at_inside (stream draft) (joined 45 (count_bytes draft)) (count_bytes draft t) _ _ (at_counts draft) (at_joined (count_bytes draft) 45 t known))

count_if : (b : Bool) (whole : List ℕ) (p n : ℕ) → nat_lt 0 n ≡ b → At whole p (if b then bytes_of 4 n else []) → n < 2 ^ 32
    → (if b then u32_at whole p else 0) ≡ n
count_if true whole p n some a fits = number_found whole p 4 n a fits
count_if false whole p n none a fits = zero_of n none
  where
    zero_of : (n : ℕ) → nat_lt 0 n ≡ false → 0 ≡ n
    zero_of zero e = refl
    zero_of (suc m) e = absurd (let h = le-leb 1 (suc m) (omega arith) in cc)

pub count_read : (draft : Draft) (t : ℕ) → image_len draft < 2 ^ 31 → t < 45 → row_count (stream draft) t ≡ rows draft t
unfolding row_count count_bytes
count_read draft t short known =
    let few = rows_few draft t known short in
    let place = ap (λ (n : ℕ). 24 + 4 * n) (present_read draft t (omega arith)) in
    let test : (nat_lt t 45 && has_bit (layout.valid (stream draft)) t) ≡ has_rows draft t =
    ap (λ (b : Bool). b && has_bit (layout.valid (stream draft)) t) (le-leb (suc t) 45 known) ∙ bit_read draft t known in
    ap₂ (λ (b : Bool) (p : ℕ). if b then u32_at (stream draft) p else 0) test place
    ∙ count_if (has_rows draft t) (stream draft) (24 + 4 * present_below draft t) (rows draft t) refl (at_count draft t known) (omega arith)

pub counts_read : (draft : Draft) → image_len draft < 2 ^ 31 → row_counts (stream draft) ≡ counts draft
unfolding row_counts counts
counts_read draft short =
    ext_get_or 0 (map (row_count (stream draft)) (range_with_len 0 45)) (map (rows draft) (range_with_len 0 45))
    (length-map-range_with_len (row_count (stream draft)) 0 45 ∙ sym (length-map-range_with_len (rows draft) 0 45))
    (λ k less.
    let known : k < 45 = omega (arith, length-map-range_with_len (row_count (stream draft)) 0 45) in
    get_or-map-range_with_len (row_count (stream draft)) 0 45 k k 0 known (omega arith)
    ∙ count_read draft k short known
    ∙ sym (get_or-map-range_with_len (rows draft) 0 45 k k 0 known (omega arith)))

pub row_width_read : (draft : Draft) (t : ℕ) → image_len draft < 2 ^ 31
    → row_width (row_counts (stream draft)) (heap_sizes (stream draft)) t ≡ row_len draft t
unfolding row_len
row_width_read draft t short = ap₂ (λ (cs : List ℕ) (bits : ℕ). widths cs bits (columns t)) (counts_read draft short) (sizes_read draft)

pub start_read : (draft : Draft) (t : ℕ) → image_len draft < 2 ^ 31 → t ≤ 45
    → start (stream draft) t ≡ 24 + 4 * present_below draft 45 + rows_len_below draft t
unfolding start rows_len_below
start_read draft t short within =
    let s = stream draft in
    let sums = sum_same (λ k. row_count s k * row_width (row_counts s) (heap_sizes s) k) (λ k. rows draft k * row_len draft k) t
    (λ k below. ap₂ (λ (a b : ℕ). a * b) (count_read draft k short (omega arith)) (row_width_read draft k short)) in
    ap₂ (λ (a b : ℕ). a + b) (rows_at_read draft) sums
