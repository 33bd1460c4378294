-- The mask of the tables with rows has their bits.
use Rattle.std.proofs.Common.{◌≡◌, ℕ, zero, suc, ◌+◌, ◌-◌, ◌*◌, ◌/◌, ◌%◌, ◌^◌, ◌<◌, ◌≤◌, Bool, true, false, ◌==◌, ◌&&◌, nat_lt, if◌then◌else◌, sym, ◌∙◌, ap, subst, arith, ◌⊎◌, inl, inr}
use Rattle.std.proofs.Math.Nat.{two-pow-succ, pow-suc, div-eq_of_lt, add-mul-div_right, pow-le-pow_right, mul_assoc, mul_comm, add-mul-mod_self_right, one-le-pow}
use Rattle.std.proofs.Math.Pow.{pow-add}
use Rattle.std.proofs.lemmas.Bool.{le-leb, lt-leb}
use Rattle.cli_tables.specs.Layout.{sum_below, has_bit}
use Rattle.image_write.specs.declared.draft.Draft.{Draft}
use Rattle.image_write.specs.Drafts.{has_rows, mask_below}

some_power : (t : ℕ) → 1 ≤ 2 ^ t
some_power t = one-le-pow t 2 (omega arith)

small_bit : (x t : ℕ) → x < 2 ^ t → has_bit x t ≡ false
unfolding has_bit
small_bit x t small = ap (λ (n : ℕ). n % 2 == 1) (div-eq_of_lt small)

top_bit : (x t : ℕ) → x < 2 ^ t → has_bit (x + 2 ^ t) t ≡ true
unfolding has_bit
top_bit x t small =
    let power = some_power t in
    let one : x + 2 ^ t ≡ x + 1 * 2 ^ t = omega arith in
    let quotient : (x + 2 ^ t) / 2 ^ t ≡ 1 =
    ap (λ (n : ℕ). n / 2 ^ t) one ∙ add-mul-div_right x 1 power ∙ ap (λ (n : ℕ). n + 1) (div-eq_of_lt small) in
    ap (λ (n : ℕ). n % 2 == 1) quotient

-- a higher power doesn't change a bit
low_bit : (x m t : ℕ) → has_bit (x + 2 ^ (m + suc t)) t ≡ has_bit x t
unfolding has_bit
low_bit x m t =
    let power = some_power t in
    let spelled : 2 ^ (m + suc t) ≡ 2 ^ m * 2 * 2 ^ t =
    pow-add 2 m (suc t) ∙ ap (λ (n : ℕ). 2 ^ m * n) (pow-suc 2 t ∙ mul_comm (2 ^ t) 2) ∙ sym (mul_assoc (2 ^ m) 2 (2 ^ t)) in
    let quotient : (x + 2 ^ (m + suc t)) / 2 ^ t ≡ x / 2 ^ t + 2 ^ m * 2 =
    ap (λ (n : ℕ). (x + n) / 2 ^ t) spelled ∙ add-mul-div_right x (2 ^ m * 2) power in
    ap (λ (n : ℕ). n == 1) (ap (λ (n : ℕ). n % 2) quotient ∙ add-mul-mod_self_right (x / 2 ^ t) (2 ^ m) 2)

bit_more : (b : Bool) (s n : ℕ) → s < 2 ^ n → s + (if b then 2 ^ n else 0) < 2 ^ suc n
bit_more true s n small = omega (arith, two-pow-succ n)
bit_more false s n small = omega (arith, two-pow-succ n)

pub mask_small : (draft : Draft) (n : ℕ) → mask_below draft n < 2 ^ n
unfolding mask_below sum_below
mask_small draft zero = omega arith
mask_small draft (suc n) = bit_more (has_rows draft n) (mask_below draft n) n (mask_small draft n)

data Order (t n : ℕ) : Type 0 where
  before : t < n → Order t n
  here : t ≡ n → Order t n
  after : n < t → Order t n

order : (t n : ℕ) → Order t n
order t n = by_cases (less_or_more t n)
  where
    less_or_more : (a b : ℕ) → (a < b) ⊎ ((a ≡ b) ⊎ (b < a))
    less_or_more a b = grind arith

    by_cases : (t < n) ⊎ ((t ≡ n) ⊎ (n < t)) → Order t n
    by_cases (inl h) = before h
    by_cases (inr (inl h)) = here h
    by_cases (inr (inr h)) = after h

below_bit : (b : Bool) (s n t : ℕ) → t < n → has_bit (s + (if b then 2 ^ n else 0)) t ≡ has_bit s t
below_bit true s n t less =
    let e : n - suc t + suc t ≡ n = omega arith in
    subst (λ (k : ℕ). has_bit (s + 2 ^ k) t ≡ has_bit s t) e (low_bit s (n - suc t) t)
below_bit false s n t less = let e : s + 0 ≡ s = omega arith in ap (λ (k : ℕ). has_bit k t) e

here_bit : (b : Bool) (s n : ℕ) → s < 2 ^ n → has_bit (s + (if b then 2 ^ n else 0)) n ≡ b
here_bit true s n small = top_bit s n small
here_bit false s n small = small_bit (s + 0) n (omega arith)

after_bit : (b : Bool) (s n t : ℕ) → s < 2 ^ n → n < t → has_bit (s + (if b then 2 ^ n else 0)) t ≡ false
after_bit b s n t small more =
    let next = bit_more b s n small in
    let up : 2 ^ suc n ≤ 2 ^ t = pow-le-pow_right {n = 2} (omega arith) {i = suc n} {j = t} (omega arith) in
    small_bit (s + (if b then 2 ^ n else 0)) t (omega (arith, next, up))

-- one table more
bit_step : (f : ℕ → Bool) (s n t : ℕ) → s < 2 ^ n → has_bit s t ≡ (nat_lt t n && f t)
    → Order t n → has_bit (s + (if f n then 2 ^ n else 0)) t ≡ (nat_lt t (suc n) && f t)
bit_step f s n t small before_is (before less) =
    below_bit (f n) s n t less ∙ before_is
    ∙ ap (λ (b : Bool). b && f t) (le-leb (suc t) n less ∙ sym (le-leb (suc t) (suc n) (omega arith)))
bit_step f s n t small before_is (here same) =
    subst (λ (k : ℕ). has_bit (s + (if f n then 2 ^ n else 0)) k ≡ (nat_lt k (suc n) && f k)) (sym same)
    (here_bit (f n) s n small ∙ ap (λ (b : Bool). b && f n) (sym (le-leb (suc n) (suc n) (omega arith))))
bit_step f s n t small before_is (after more) =
    after_bit (f n) s n t small more ∙ ap (λ (b : Bool). b && f t) (sym (lt-leb (suc t) (suc n) (omega arith)))

-- the bit of a table below n is set where it has rows; no other is
pub bit_of : (draft : Draft) (n t : ℕ) → has_bit (mask_below draft n) t ≡ (nat_lt t n && has_rows draft t)
unfolding mask_below sum_below
bit_of draft zero t =
    let power = some_power t in
    let none : nat_lt t 0 ≡ false = lt-leb (suc t) 0 (omega arith) in
    small_bit 0 t (omega arith) ∙ ap (λ (b : Bool). b && has_rows draft t) (sym none)
bit_of draft (suc n) t = bit_step (has_rows draft) (mask_below draft n) n t (mask_small draft n) (bit_of draft n t) (order t n)
