-- The least multiple of a number that is not below another.
use Rattle.std.proofs.Common.{◌≡◌, ℕ, suc, ◌+◌, ◌-◌, ◌*◌, ◌/◌, ◌%◌, ◌≤◌, ◌<◌, arith, inl, inr}
use Rattle.std.proofs.Math.Nat.{mul-le-mul_right, mul-mod_left}
use Rattle.std.proofs.lemmas.Bool.{cases_lt}
use Rattle.field_places.specs.Places.{IsLeast, least_at}

module _ (align from : ℕ) (some : 0 < align) where
  abbrev q : ℕ
  q = (from + (align - 1)) / align

  abbrev r : ℕ
  r = (from + (align - 1)) % align

  abbrev p : ℕ
  p = q * align

  parts : align * q + r ≡ from + (align - 1)
  parts = omega arith

  low : r < align
  low = omega arith

  split : p + r ≡ from + (align - 1)
  split = omega (arith, parts)

  pub least_above : from ≤ p
  least_above = omega (arith, split, low)

  pub least_below : p < from + align
  least_below = omega (arith, split)

  below_next : (k : ℕ) → k < q → k * align + align ≤ p
  below_next k h = let m = mul-le-mul_right {m = suc k} {n = q} align (omega arith) in omega (arith, m)

  pub least_is : IsLeast align from p
  least_is = record {
    aligned = mul-mod_left q align;
    above = least_above;
    least = λ m above aligned.
        let k : ℕ = m / align in
        let whole : align * k + m % align ≡ m = omega arith in
        let exact : k * align ≡ m = omega (arith, whole, aligned) in
        elim (cases_lt k q) [
          | inl below ↦ absurd (let n = below_next k below in omega (arith, n, exact, split, low, above))
          | inr over ↦ let n = mul-le-mul_right {m = q} {n = k} align over in omega (arith, n, exact)
        ];
  }

pub least_at-is : (align from : ℕ) → 0 < align → IsLeast align from (least_at align from)
unfolding least_at
least_at-is align from some = least_is align from some

pub least_at-below : (align from : ℕ) → 0 < align → least_at align from < from + align
unfolding least_at
least_at-below align from some = least_below align from some
