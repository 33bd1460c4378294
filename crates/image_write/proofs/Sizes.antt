-- Sums over the tables, one table more.
use Rattle.std.proofs.Common.{◌≡◌, ℕ, ◌+◌, ◌*◌, ◌^◌, ◌≤◌, Bool, true, false, length, refl, arith, ◌∙◌, ap, sym, if◌then◌else◌}
use Rattle.std.proofs.Math.Nat.{div-mul-le_self}
use mir.Val.{bool_byte}
use Rattle.cli_tables.specs.Layout.{one_if}
use Rattle.cli_tables.proofs.Sums.{sum_below_none, sum_below_more}
use Rattle.image_write.specs.declared.draft.Draft.{Draft}
use Rattle.image_write.specs.Drafts.{column_count, cells, rows, has_rows, row_len, mask_below}
use Rattle.image_write.specs.Lengths.{present_below, rows_len_below}

pub present_none : (draft : Draft) → 0 ≡ present_below draft 0
unfolding present_below
present_none draft = sym (sum_below_none (λ t. one_if (has_rows draft t)))

pub present_more : (draft : Draft) (t : ℕ) → present_below draft (t + 1) ≡ present_below draft t + one_if (has_rows draft t)
unfolding present_below
present_more draft t = sum_below_more (λ k. one_if (has_rows draft k)) t

pub rows_len_none : (draft : Draft) → 0 ≡ rows_len_below draft 0
unfolding rows_len_below
rows_len_none draft = sym (sum_below_none (λ t. rows draft t * row_len draft t))

pub rows_len_more : (draft : Draft) (t : ℕ) → rows_len_below draft (t + 1) ≡ rows_len_below draft t + rows draft t * row_len draft t
unfolding rows_len_below
rows_len_more draft t = sum_below_more (λ k. rows draft k * row_len draft k) t

pub mask_none : (draft : Draft) → 0 ≡ mask_below draft 0
unfolding mask_below
mask_none draft = sym (sum_below_none (λ t. if has_rows draft t then 2 ^ t else 0))

pub mask_more : (draft : Draft) (t : ℕ) → mask_below draft (t + 1) ≡ mask_below draft t + (if has_rows draft t then 2 ^ t else 0)
unfolding mask_below
mask_more draft t = sum_below_more (λ k. if has_rows draft k then 2 ^ k else 0) t

pub byte_is : (b : Bool) → bool_byte b ≡ one_if b
byte_is true = refl
byte_is false = refl

pub one_small : (b : Bool) → one_if b ≤ 1
one_small true = omega arith
one_small false = omega arith

-- whole rows lie in the list of cells
pub rows_inside : (draft : Draft) (t : ℕ) → rows draft t * column_count t ≤ length (cells draft t)
unfolding rows
rows_inside draft t = div-mul-le_self (length (cells draft t)) (column_count t)

pub mask_more_yes : (draft : Draft) (t : ℕ) → has_rows draft t ≡ true → mask_below draft (t + 1) ≡ mask_below draft t + 2 ^ t
mask_more_yes draft t h = mask_more draft t ∙ ap (λ (b : Bool). mask_below draft t + (if b then 2 ^ t else 0)) h

pub mask_more_no : (draft : Draft) (t : ℕ) → has_rows draft t ≡ false → mask_below draft (t + 1) ≡ mask_below draft t + 0
mask_more_no draft t h = mask_more draft t ∙ ap (λ (b : Bool). mask_below draft t + (if b then 2 ^ t else 0)) h
