-- The faults of `binary_at` have the causes that `Faults` names: one proof for both widths.
use Rattle.std.proofs.Common.{◌≡◌, refl, ap, ℕ, zero, suc, ◌+◌, ◌-◌, ◌*◌, ◌/◌, ◌^◌, ◌<◌, ◌≤◌, Bool, true, false, ℤ, pos, negsuc, neg_ℤ, ◌+ℤ◌, ◌-ℤ◌, ◌*ℤ◌, FitsSigned, Result, Ok, Err, arith}
use Rattle.std.specs.Prelude.{◌↔◌, IsFalse, if◌then◌else◌, int_div, int_rem, nat_lt}
use Rattle.std.specs.Ordering.{int_eq}
use Rattle.std.specs.Int.{Width}
use Rattle.std.proofs.lemmas.Bool.Decides.{nat_tests, Decides-int_eq}
use Rattle.std.proofs.Math.Nat.{div-le_self, div-lt_self, div-one}
use Rattle.std.proofs.Math.Facts.{Fits-of_z}
use Rattle.cil_ops.specs.declared.fault.OpFault.{OpFault}
use Rattle.cil_ops.specs.declared.fault.OpFault.TheVariants.{DivideByZero, Overflow, Mixed}
use Rattle.cil_ops.specs.declared.operations.BinOp.{BinOp}
use Rattle.cil_ops.specs.declared.operations.BinOp.TheVariants.{Div, DivUn, Rem, RemUn, AddOvf, AddOvfUn, MulOvf, MulOvfUn, SubOvf, SubOvfUn}
use Rattle.cil_ops.specs.declared.number.Num.{Num}
use Rattle.cil_ops.specs.Number.{width_of, integer_of, unsigned, fits, checked, checked_unsigned}
use Rattle.cil_ops.specs.Binary.{binary_at, binary_of, is_mixed, result_like, unless_zero}
use Rattle.cil_ops.specs.Faults.{least, ExceedsWidth, Overflows}
use lib.Signed.{mag}
use lib.Pow.{pow_pos}
use mir.Val.{bits, hbits}

-- ---- tests and the facts that they test

fits_tells : (w : Width) (z : ℤ) → fits w z ≡ true → FitsSigned w z
fits_tells w (pos n) e = record { sfits = grind (arith, nat_tests) }
fits_tells w (negsuc n) e = record { sfits = grind (arith, nat_tests) }

fits_holds : (w : Width) (z : ℤ) → FitsSigned w z → fits w z ≡ true
fits_holds w (pos n) f = let small = f.sfits in grind (arith, nat_tests)
fits_holds w (negsuc n) f = let small = f.sfits in grind (arith, nat_tests)

-- ---- the one quotient that doesn't fit

mag_negated : (n : ℕ) → mag (neg_ℤ (pos n)) ≡ n - 1
mag_negated zero = refl
mag_negated (suc n) = omega arith

quotient_exceeds : (w : Width) (a b : ℤ) → FitsSigned w a → ¬ FitsSigned w (int_div a b) → (a ≡ least w) × (b ≡ negsuc 0)
quotient_exceeds w (pos a) (pos b) f not_fit = absurd (not_fit (record { sfits = omega (arith, f.sfits, div-le_self a b) }))
quotient_exceeds w (pos a) (negsuc b) f not_fit = absurd (not_fit (record { sfits = omega (arith, f.sfits, div-le_self a (suc b), mag_negated (a / suc b)) }))
quotient_exceeds w (negsuc a) (pos b) f not_fit = absurd (not_fit (record { sfits = omega (arith, f.sfits, div-le_self (suc a) b, mag_negated (suc a / b)) }))
quotient_exceeds w (negsuc a) (negsuc (suc b)) f not_fit = absurd (not_fit (record { sfits = omega (arith, f.sfits, div-lt_self {n = suc a} {k = suc (suc b)} (omega arith) (omega arith)) }))
quotient_exceeds w (negsuc a) (negsuc zero) f not_fit = (ap negsuc (by (nat_lt (suc a) (2 ^ hbits w)) refl), refl)
  where
    by : (t : Bool) → nat_lt (suc a) (2 ^ hbits w) ≡ t → a ≡ 2 ^ hbits w - 1
    by true e = absurd (not_fit (record { sfits = grind (arith, nat_tests, div-one) }))
    by false e = let small = f.sfits in grind (arith, nat_tests)

least_exceeds : (w : Width) → ¬ FitsSigned w (int_div (least w) (negsuc 0))
least_exceeds w f = omega (arith, f.sfits, div-one (suc (2 ^ hbits w - 1)), pow_pos (hbits w))

-- ---- Overflow

-- a result that is given where z fits
by_fit : (w : Width) (z v : ℤ) (t : Bool) → fits w z ≡ t → ((if t then Ok v else Err Overflow) ≡ Err Overflow) ↔ (¬ FitsSigned w z)
by_fit w z v true e = (λ q. cc, λ not_fit. absurd (not_fit (fits_tells w z e)))
by_fit w z v false e = (λ q f. let holds = fits_holds w z f in cc, λ not_fit. refl)

checked_exceeds : (w : Width) (z : ℤ) → (checked w z ≡ Err Overflow) ↔ (¬ FitsSigned w z)
checked_exceeds w z = by_fit w z z (fits w z) refl

-- a quotient, or the remainder v beside it
division_exceeds : (w : Width) (a b v : ℤ) → FitsSigned w a
    → (unless_zero b (if fits w (int_div a b) then Ok v else Err Overflow) ≡ Err Overflow) ↔ ((a ≡ least w) × (b ≡ negsuc 0))
division_exceeds w a b v f = by (int_eq b (pos 0)) refl
  where
    fit : ((if fits w (int_div a b) then Ok v else Err Overflow) ≡ Err Overflow) ↔ (¬ FitsSigned w (int_div a b))
    fit = by_fit w (int_div a b) v (fits w (int_div a b)) refl

    by : (t : Bool) → int_eq b (pos 0) ≡ t
        → ((if t then Err DivideByZero else (if fits w (int_div a b) then Ok v else Err Overflow)) ≡ Err Overflow) ↔ ((a ≡ least w) × (b ≡ negsuc 0))
    by true e = (λ q. cc, λ (p, q). let zero_b = (Decides-int_eq b (pos 0)).0 e in cc)
    by false e = (λ q. quotient_exceeds w a b f (fit.0 q), λ (p, q). fit.1 (let exceeds = least_exceeds w in rw (p, q) exceeds))

-- the bits of a number are below 2 ^ bits
small : (w : Width) (a : ℤ) → FitsSigned w a → unsigned w a < 2 ^ bits w
small w a f = (Fits-of_z f).fits

unsigned_exceeds : (w : Width) (n : ℕ) → (checked_unsigned w (pos n) ≡ Err Overflow) ↔ (2 ^ bits w ≤ n)
unsigned_exceeds w n = (λ q. grind (arith, nat_tests), λ h. grind (arith, nat_tests))

difference_exceeds : (w : Width) (m n : ℕ) → m < 2 ^ bits w → (checked_unsigned w (pos m -ℤ pos n) ≡ Err Overflow) ↔ (m < n)
difference_exceeds w m zero h = (λ q. grind (arith, nat_tests), λ h. grind (arith, nat_tests))
difference_exceeds w m (suc n) h = (λ q. grind (arith, nat_tests), λ h. grind (arith, nat_tests))

overflow_at : (w : Width) (op : BinOp) (a b : ℤ) → FitsSigned w a → (binary_at w op a b ≡ Err Overflow) ↔ ExceedsWidth w op a b
overflow_at w Div a b f = division_exceeds w a b (int_div a b) f
overflow_at w Rem a b f = division_exceeds w a b (int_rem a b) f
overflow_at w DivUn a b f = (λ q. grind arith, λ x. absurd x)
overflow_at w RemUn a b f = (λ q. grind arith, λ x. absurd x)
overflow_at w AddOvf a b f = checked_exceeds w (a +ℤ b)
overflow_at w SubOvf a b f = checked_exceeds w (a -ℤ b)
overflow_at w MulOvf a b f = checked_exceeds w (a *ℤ b)
overflow_at w AddOvfUn a b f = unsigned_exceeds w (unsigned w a + unsigned w b)
overflow_at w SubOvfUn a b f = difference_exceeds w (unsigned w a) (unsigned w b) (small w a f)
overflow_at w MulOvfUn a b f = unsigned_exceeds w (unsigned w a * unsigned w b)
overflow_at w _ a b f = (λ q. cc, λ x. absurd x)

-- ---- the same of two numbers

result_overflows : (a : Num) (r : Result ℤ OpFault) → (result_like a r ≡ Err Overflow) ↔ (r ≡ Err Overflow)
result_overflows a (Ok z) = (λ q. cc, λ q. cc)
result_overflows a (Err fault) = (λ q. cc, λ q. cc)

after_test : (op : BinOp) (a b : Num) (t : Bool) → FitsSigned (width_of a) (integer_of a)
    → ((if t then Err Mixed else result_like a (binary_at (width_of a) op (integer_of a) (integer_of b))) ≡ Err Overflow)
    ↔ (IsFalse t × ExceedsWidth (width_of a) op (integer_of a) (integer_of b))
after_test op a b true f = (λ q. cc, λ x. let e = x.0 in cc)
after_test op a b false f =
    let cause = overflow_at (width_of a) op (integer_of a) (integer_of b) f in
    let overflows = result_overflows a (binary_at (width_of a) op (integer_of a) (integer_of b)) in
    (λ q. (refl, cause.0 (overflows.0 q)), λ x. overflows.1 (cause.1 x.1))

pub overflow_where : (op : BinOp) (a b : Num) (r : Result Num OpFault) → FitsSigned (width_of a) (integer_of a) → r ≡ binary_of op a b
    → (r ≡ Err Overflow) ↔ Overflows op a b
overflow_where op a b r f e = rw e (after_test op a b (is_mixed op a b) f)
