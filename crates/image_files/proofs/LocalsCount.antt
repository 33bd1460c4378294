-- How many local variables stand before those of a row.
use Rattle.std.proofs.Common.{◌≡◌, ℕ, ◌+◌, ◌<◌, ◌≤◌, take, length, get_or, refl, sym, ap, ◌∙◌, arith}
use Rattle.std.specs.List.{sum_by}
use Rattle.std.proofs.Math.Seq.{take-length}
use Rattle.std.proofs.lemmas.List.FromFn.{length-range_with_len, get_or-range_with_len}
use Rattle.std.proofs.lemmas.List.Sums.{sum_by_more, sum_by-take-le}
use Rattle.cli_tables.specs.Metadata.{Metadata}
use Rattle.image_rows.specs.Cells.{rows, rows_of}
use Rattle.image_files.specs.Signatures.{locals_in, listed, locals_before}

-- the rows of StandAloneSig, all taken
pub all_taken : (m : Metadata) → take (rows m 0x11) (rows_of m 0x11) ≡ rows_of m 0x11
all_taken m = ap (λ (n : ℕ). take n (rows_of m 0x11)) (sym (length-range_with_len 1 (rows m 0x11))) ∙ take-length (rows_of m 0x11)

-- one row more
pub locals_more : (m : Metadata) (row : ℕ) → row < rows m 0x11
    → locals_before m (row + 1) ≡ locals_before m row + length (listed (locals_in m (row + 1)))
unfolding locals_before
locals_more m row less =
    let count = length-range_with_len 1 (rows m 0x11) in
    let at : get_or (rows_of m 0x11) row 0 ≡ 1 + row = get_or-range_with_len 1 (rows m 0x11) row 0 less in
    let last : 1 + row ≡ row + 1 = omega arith in
    sum_by_more (λ r. length (listed (locals_in m r))) (rows_of m 0x11) row 0 (omega (arith, count))
    ∙ ap (λ (r : ℕ). locals_sum m row + length (listed (locals_in m r))) (at ∙ last)
  where
    locals_sum : Metadata → ℕ → ℕ
    locals_sum m n = sum_by (λ r. length (listed (locals_in m r))) (take n (rows_of m 0x11))

-- those of the first rows are among all
pub locals_most : (m : Metadata) (n : ℕ) → locals_before m n ≤ locals_before m (rows m 0x11)
unfolding locals_before
locals_most m n =
    let part = sum_by-take-le (λ r. length (listed (locals_in m r))) (rows_of m 0x11) n in
    let all = ap (sum_by (λ r. length (listed (locals_in m r)))) (all_taken m) in
    omega (arith, part, all)

pub locals_none : (m : Metadata) → locals_before m 0 ≡ 0
unfolding locals_before
locals_none m = refl
