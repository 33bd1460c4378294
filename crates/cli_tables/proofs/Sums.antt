-- Sums over the numbers below a number.
use Rattle.std.proofs.Common.{◌≡◌, ℕ, zero, suc, ◌+◌, ◌*◌, ◌<◌, ◌≤◌, List, length, Bool, true, false, refl, arith, add-one, ap, ◌∙◌, ◌⊎◌, inl, inr, sym}
use mir.Val.{bool_byte}
use Rattle.cli_tables.specs.Layout.{sum_below, present_in, one_if, has_bit, valid, rows_at}

pub sum_below_none : (f : ℕ → ℕ) → sum_below f 0 ≡ 0
unfolding sum_below
sum_below_none f = refl

pub sum_below_more : (f : ℕ → ℕ) (n : ℕ) → sum_below f (n + 1) ≡ sum_below f n + f n
unfolding sum_below
sum_below_more f n = rw add-one refl

below_or_last : (k n : ℕ) → k ≤ suc n → (k ≤ n) ⊎ (k ≡ suc n)
below_or_last k n h = grind arith

-- the sum grows
pub sum_below_grows : (f : ℕ → ℕ) (k n : ℕ) → k ≤ n → sum_below f k ≤ sum_below f n
unfolding sum_below
sum_below_grows f k zero within = let e : k ≡ 0 = omega arith in rw e (omega arith)
sum_below_grows f k (suc n) within =
    elim (below_or_last k n within) [
      | inl less ↦ let more = sum_below_grows f k n less in omega arith
      | inr same ↦ rw same (omega arith)
    ]

-- one term and those before it are within the sum
pub sum_below_holds : (f : ℕ → ℕ) (k n : ℕ) → k < n → sum_below f k + f k ≤ sum_below f n
sum_below_holds f k n within =
    let more = sum_below_more f k in
    let grows = sum_below_grows f (k + 1) n (omega arith) in
    omega arith

-- the count of rows of a table that is there lies before the rows
pub count_inside : (stream : List ℕ) (t : ℕ) → t < 45 → has_bit (valid stream) t ≡ true → rows_at stream ≤ length stream
    → 24 + 4 * present_in (valid stream) t + 4 ≤ length stream
unfolding rows_at
count_inside stream t known present inside =
    let holds = sum_below_holds (λ k. one_if (has_bit (valid stream) k)) t 64 (omega arith) in
    let one : one_if (has_bit (valid stream) t) ≡ 1 = ap one_if present in
    omega arith

byte_is : (b : Bool) → bool_byte b ≡ one_if b
byte_is true = refl
byte_is false = refl

-- one more table of a mask
pub present_more : (mask t : ℕ) (b : Bool) → b ≡ has_bit mask t → present_in mask (t + 1) ≡ present_in mask t + bool_byte b
present_more mask t b e = sum_below_more (λ k. one_if (has_bit mask k)) t ∙ ap (λ (x : ℕ). present_in mask t + x) (ap one_if (sym e) ∙ sym (byte_is b))

pub byte_small : (b : Bool) → bool_byte b ≤ 1
byte_small true = omega arith
byte_small false = omega arith
