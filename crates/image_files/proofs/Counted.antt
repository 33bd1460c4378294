-- Sums of counts that stop where they are too many, and the local variables of one row more.
use Rattle.std.proofs.Common.{◌≡◌, ℕ, ◌+◌, ◌<◌, ◌≤◌, ◌⊎◌, inl, inr, Bool, true, false, cond, List, [], length, Some, None, unwrap_or, Result, Ok, Err, is_ok, refl, sym, ap, ap₂, subst, ◌∙◌, arith}
use Rattle.std.proofs.Math.Nat.{min-eq_left, min-eq_right, min-le_right}
use Rattle.cli_tables.specs.Metadata.{Metadata}
use Rattle.cli_sigs.specs.declared.signature.RowCounts.{RowCounts}
use Rattle.cli_sigs.specs.declared.signature.SigTy.{SigTy}
use Rattle.cli_sigs.specs.Signatures.{placed, locals_at}
use Rattle.image_rows.specs.Blobs.{begins_with, row_counts, value_or}
use Rattle.image_rows.specs.Cells.{rows, at, blob_by}
use Rattle.image_rows.specs.SignatureChecks.{is_signature, is_signature_by}
use Rattle.image_rows.specs.declared.signature_checks.SigKind.TheVariants as kind
use Rattle.image_files.specs.Counts.{too_many, capped, local_count, all_locals}
use Rattle.image_files.specs.Signatures.{listed, locals_by, locals_in, locals_before}
use Rattle.image_files.proofs.LocalsCount.{locals_more}

-- ---- counts that stop

pub capped_few : (n : ℕ) → capped n ≤ too_many
capped_few n = min-le_right n too_many

pub stops : (n : ℕ) → too_many ≤ n → capped n ≡ too_many
stops n many = min-eq_right many

pub below : (n : ℕ) → n ≤ too_many → capped n ≡ n
below n few = min-eq_left few

pub one_of : (n : ℕ) → (n ≤ too_many) ⊎ (too_many ≤ n)
one_of n = grind arith

pub capped_sum : (a b x y : ℕ) → a ≡ capped x → b ≡ capped y → capped (a + b) ≡ capped (x + y)
capped_sum a b x y a_is b_is =
    elim (one_of x) [
      | inl x_few ↦ elim (one_of y) [
        | inl y_few ↦ ap₂ (λ n k. capped (n + k)) (a_is ∙ below x x_few) (b_is ∙ below y y_few)
        | inr y_many ↦ stops (a + b) (omega (arith, b_is, stops y y_many)) ∙ sym (stops (x + y) (omega arith))
      ]
      | inr x_many ↦ stops (a + b) (omega (arith, a_is, stops x x_many)) ∙ sym (stops (x + y) (omega arith))
    ]

-- ---- lists that are read and lists that are told

-- a blob that passes its check, by whether it begins as locals do and by what it holds
pub told_of : {X : Type 0} (begins : Bool) (held : Result (List X) ℕ) (told : ℕ) → begins ≡ true → cond begins (is_ok held) true ≡ true
    → ((xs : List X) → held ≡ Ok xs → told ≡ length xs) → capped told ≡ capped (length (unwrap_or (cond begins (Some (value_or [] held)) None) []))
told_of true (Ok xs) told b e is = ap capped (is xs refl)
told_of true (Err place) told b e is = absurd cc
told_of false held told b e is = absurd cc

pub not_told : {X : Type 0} (begins : Bool) (held : Result (List X) ℕ) → begins ≡ false → 0 ≡ capped (length (unwrap_or (cond begins (Some (value_or [] held)) None) []))
not_told true held b = absurd cc
not_told false held b = refl

-- the same of the blob at an index
pub told_there : (m : Metadata) (index told : ℕ) (blob : List ℕ) → blob ≡ blob_by m index → begins_with 0x07 blob ≡ true → is_signature_by m kind.Locals index ≡ true
    → ((counts : RowCounts) (xs : List SigTy) → placed blob (locals_at counts blob) ≡ Ok xs → told ≡ length xs) → capped told ≡ local_count m index
unfolding local_count locals_by is_signature_by is_signature
told_there m index told blob is begins signed listed =
    told_of (begins_with 0x07 (blob_by m index)) (placed (blob_by m index) (locals_at (row_counts m) (blob_by m index))) told
    (ap (λ (b : List ℕ). begins_with 0x07 b) (sym is) ∙ begins) signed
    (λ xs e. listed (row_counts m) xs (subst (λ (b : List ℕ). placed b (locals_at (row_counts m) b) ≡ Ok xs) (sym is) e))

pub not_there : (m : Metadata) (index : ℕ) (blob : List ℕ) → blob ≡ blob_by m index → begins_with 0x07 blob ≡ false → 0 ≡ local_count m index
unfolding local_count locals_by
not_there m index blob is begins =
    not_told (begins_with 0x07 (blob_by m index)) (placed (blob_by m index) (locals_at (row_counts m) (blob_by m index)))
    (ap (λ (b : List ℕ). begins_with 0x07 b) (sym is) ∙ begins)

-- ---- local variables

pub no_locals : (m : Metadata) → 0 ≡ capped (locals_before m 0)
unfolding locals_before
no_locals m = refl

local_count_of : (m : Metadata) (row index : ℕ) → index ≡ at m 0x11 row 0 → local_count m index ≡ capped (length (listed (locals_in m row)))
unfolding local_count
local_count_of m row index is = ap (λ i. capped (length (listed (locals_by m i)))) is

pub more_locals : (m : Metadata) (n total index count sum : ℕ) → n < rows m 0x11 → total ≡ capped (locals_before m n) → index ≡ at m 0x11 (n + 1) 0
    → count ≡ local_count m index → sum ≡ capped (total + count) → sum ≡ capped (locals_before m (n + 1))
more_locals m n total index count sum within before index_is count_is sum_is =
    sum_is
    ∙ capped_sum total count (locals_before m n) (length (listed (locals_in m (n + 1)))) before (count_is ∙ local_count_of m (n + 1) index index_is)
    ∙ ap capped (sym (locals_more m n within))

pub count_few : (m : Metadata) (index : ℕ) → local_count m index ≤ too_many
unfolding local_count
count_few m index = capped_few (length (listed (locals_by m index)))

pub these_locals : (m : Metadata) (n total : ℕ) → n ≡ rows m 0x11 → total ≡ capped (locals_before m n) → total ≡ all_locals m
unfolding all_locals
these_locals m n total all is = is ∙ ap (λ k. capped (locals_before m k)) all
