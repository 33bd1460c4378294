-- Powers of two, and sums of them.
use Rattle.std.proofs.Common.{◌≡◌, ℕ, ◌+◌, ◌*◌, ◌^◌, ◌%◌, ◌<◌, ◌≤◌, ◌∙◌, ap, arith, add-one}
use Rattle.std.proofs.Math.Nat.{pow-le-pow_right, two-pow-succ, mod-eq_of_lt}

pub pow_small : (t : ℕ) → t < 45 → 2 ^ t ≤ 2 ^ 44
pow_small t below = pow-le-pow_right {n = 2} (omega arith) {i = t} {j = 44} (omega arith)

pub pow_next : (t : ℕ) → 2 ^ (t + 1) ≡ 2 ^ t + 2 ^ t
pow_next t = rw add-one (two-pow-succ t)

-- a bit as code makes it
pub shifted : (t : ℕ) → t < 45 → 1 * 2 ^ t % 18446744073709551616 ≡ 2 ^ t
shifted t below =
    let small = pow_small t below in
    let one : 1 * 2 ^ t ≡ 2 ^ t = omega arith in
    ap (λ (x : ℕ). x % 18446744073709551616) one ∙ mod-eq_of_lt (omega arith)

pub pow_of_width : (w : ℕ) → w ≤ 4 → 256 ^ w ≤ 256 ^ 4
pow_of_width w small = pow-le-pow_right {n = 256} (omega arith) {i = w} {j = 4} small
