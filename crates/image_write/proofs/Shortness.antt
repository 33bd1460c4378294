-- An image is as long as each of its parts, and has as many bytes as a table has rows.
use Rattle.std.proofs.Common.{◌≡◌, ℕ, zero, suc, ◌*◌, ◌/◌, ◌^◌, ◌<◌, ◌≤◌, length, Bool, true, false, ◌==◌, nat_lt, get_or, eqb-true, if◌then◌else◌, refl, sym, ◌∙◌, arith, ◌⊎◌, inl, inr}
use Rattle.std.proofs.Math.Nat.{mul-le-mul_left}
use Rattle.std.proofs.lemmas.Bool.{leb-true, le-leb}
use Rattle.std.proofs.lemmas.List.Sums.{sum_by_more_le}
use Rattle.cli_tables.specs.Layout.{width, widths, is_read_width}
use Rattle.cli_tables.specs.Schema.{columns}
use Rattle.cli_tables.specs.declared.schema.Column.TheVariants.{U8}
use Rattle.cli_tables.proofs.CellLemmas.{width_reads}
use Rattle.cli_tables.proofs.Sums.{sum_below_holds}
use Rattle.image_write.specs.declared.draft.Draft.{Draft}
use Rattle.image_write.specs.Drafts.{column_count, cells, rows, counts, heap_bits, row_len}
use Rattle.image_write.specs.Layouts.{is_short, HasManyRows, IsLayout}
use Rattle.image_write.specs.declared.layout.Layout.{Layout}
use Rattle.image_write.specs.Lengths.{rows_len_below, tables_len, filled_len, metadata_len, image_len}
use Rattle.image_write.specs.Pieces.{rounded}

pub rounded_holds : (n : ℕ) → n ≤ rounded n
rounded_holds n = omega arith

pub filled_holds : (n : ℕ) → n ≤ filled_len n
unfolding filled_len
filled_holds n = by_test (n == 0) refl
  where
    by_test : (b : Bool) → (n == 0) ≡ b → n ≤ (if b then 4 else rounded n)
    by_test true e = omega (arith, eqb-true n 0 e)
    by_test false e = rounded_holds n

-- the parts of an image
pub record Parts (draft : Draft) : Type 0 where
  pub tables : tables_len draft ≤ image_len draft
  pub strings : length draft.strings ≤ image_len draft
  pub users : length draft.users ≤ image_len draft
  pub guids : length draft.guids ≤ image_len draft
  pub blobs : length draft.blobs ≤ image_len draft
  pub bodies : length draft.bodies ≤ image_len draft

pub parts : (draft : Draft) → Parts draft
unfolding metadata_len
parts draft =
    let tables = rounded_holds (tables_len draft) in
    let strings = rounded_holds (length draft.strings) in
    let users = filled_holds (length draft.users) in
    let guids = rounded_holds (length draft.guids) in
    let blobs = filled_holds (length draft.blobs) in
    record {
      tables = omega arith;
      strings = omega arith;
      users = omega arith;
      guids = omega arith;
      blobs = omega arith;
      bodies = omega arith;
    }

below : (n m k : ℕ) → n ≤ m → m < k → nat_lt n k ≡ true
below n m k h l = le-leb (suc n) k (omega arith)

all_short : (draft : Draft) → image_len draft < 2 ^ 31 → is_short draft ≡ true
all_short draft short =
    let p = parts draft in
    rw (
      below (length draft.strings) (image_len draft) (2 ^ 31) p.strings short,
      below (length draft.users) (image_len draft) (2 ^ 31) p.users short,
      below (length draft.guids) (image_len draft) (2 ^ 31) p.guids short,
      below (length draft.blobs) (image_len draft) (2 ^ 31) p.blobs short,
      below (length draft.bodies) (image_len draft) (2 ^ 31) p.bodies short,
    )
    refl

-- where some heap is long, so is the image
pub long_image : (draft : Draft) → is_short draft ≡ false → false ≡ nat_lt (image_len draft) (2 ^ 31)
long_image draft long = by_test (nat_lt (image_len draft) (2 ^ 31)) refl
  where
    by_test : (b : Bool) → nat_lt (image_len draft) (2 ^ 31) ≡ b → false ≡ b
    by_test false e = refl
    by_test true e = sym long ∙ all_short draft (leb-true _ _ e)

-- a row has a byte at least
reads_some : (w : ℕ) → is_read_width w ≡ true → 1 ≤ w
reads_some zero e = cc
reads_some (suc w) e = omega arith

row_has_bytes : (draft : Draft) (t : ℕ) → 0 < column_count t → 1 ≤ row_len draft t
unfolding row_len widths
row_has_bytes draft t some =
    let w = width (counts draft) (heap_bits draft) in
    let first = sum_by_more_le w (columns t) 0 U8 some in
    let wide = reads_some (w (get_or (columns t) 0 U8)) (width_reads (counts draft) (heap_bits draft) (get_or (columns t) 0 U8)) in
    omega (arith, first, wide)

rows_no_columns : (n m : ℕ) → m ≡ 0 → n / m ≡ 0
rows_no_columns n m e = omega arith

pub no_rows : (draft : Draft) (t : ℕ) → column_count t ≡ 0 → rows draft t ≡ 0
unfolding rows
no_rows draft t none = rows_no_columns (length (cells draft t)) (column_count t) none

none_or_some : (n : ℕ) → (n ≡ 0) ⊎ (0 < n)
none_or_some zero = inl refl
none_or_some (suc n) = inr (omega arith)

rows_have_bytes : (draft : Draft) (t : ℕ) → rows draft t ≤ rows draft t * row_len draft t
rows_have_bytes draft t =
    elim (none_or_some (column_count t)) [
      | inl none ↦ rw (no_rows draft t none) (omega arith)
      | inr some ↦ let more = mul-le-mul_left (rows draft t) (row_has_bytes draft t some) in omega arith
    ]

pub rows_within : (draft : Draft) (t : ℕ) → t < 45 → rows draft t ≤ rows_len_below draft 45
unfolding rows_len_below
rows_within draft t known =
    let one = rows_have_bytes draft t in
    let all = sum_below_holds (λ k. rows draft k * row_len draft k) t 45 known in
    omega arith

pub rows_few : (draft : Draft) (t : ℕ) → t < 45 → image_len draft < 2 ^ 31 → rows draft t < 2 ^ 31
unfolding tables_len
rows_few draft t known short =
    let here = rows_within draft t known in
    let p = parts draft in
    omega (arith, here, p.tables)

-- where a table has many rows, the image is long
pub many_rows : (draft : Draft) → HasManyRows draft → false ≡ nat_lt (image_len draft) (2 ^ 31)
many_rows draft (t, known, many) = by_test (nat_lt (image_len draft) (2 ^ 31)) refl
  where
    by_test : (b : Bool) → nat_lt (image_len draft) (2 ^ 31) ≡ b → false ≡ b
    by_test false e = refl
    by_test true e = absurd (let few = rows_few draft t known (leb-true _ _ e) in omega arith)

-- `#~` is shorter than the image
pub near_tables : (draft : Draft) (layout : Layout) → IsLayout draft layout → layout.tables_len < 2 ^ 31
near_tables draft layout is = let p = parts draft in omega (arith, p.tables, is.tables_len, is.short)
