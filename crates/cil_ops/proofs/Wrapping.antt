-- What an integer leaves in a width, from its bits: the same lemmas for both widths.
use Rattle.std.proofs.Common.{◌≡◌, refl, sym, ap, ◌∙◌, ℕ, ◌*◌, ◌^◌, ◌%◌, ℤ, pos, ◌*ℤ◌, FitsSigned}
use Rattle.std.specs.Prelude.{unsigned_abs}
use Rattle.std.specs.Int.{Width, cast_signed, int_rem_euclid, int_wrap}
use Rattle.std.proofs.lemmas.Int.{int_wrap_fits, int_wrap-mul_left, wrapping_add_is, wrapping_sub_is, wrapping_neg_is, to_z-of_z}
use Rattle.std.proofs.Math.Facts.{Fits-of_z}
use Rattle.std.proofs.Math.Nat.{mod-eq_of_lt}
use Rattle.cil_ops.specs.Number.{unsigned}
use mir.Val.{bits}

-- by definition: the residue modulo 2 ^ bits, as a signed number
pub int_wrap-residue : (w : Width) (z : ℤ) → int_wrap w z ≡ cast_signed w (unsigned_abs (int_rem_euclid z (pos (2 ^ bits w))))
unfolding int_wrap
int_wrap-residue w z = refl

pub int_wrap-pos : (w : Width) (n : ℕ) → int_wrap w (pos n) ≡ cast_signed w (n % 2 ^ bits w)
unfolding int_wrap
int_wrap-pos w n = refl

-- a number's bits, read as unsigned, leave the number
pub int_wrap-unsigned : (w : Width) (z : ℤ) → FitsSigned w z → int_wrap w (pos (unsigned w z)) ≡ z
int_wrap-unsigned w z fits =
    int_wrap-pos w (unsigned w z) ∙ ap (cast_signed w) (mod-eq_of_lt (Fits-of_z fits).fits) ∙ to_z-of_z w z fits

-- the bits moved up by k, without those that leave the width, are the product with 2 ^ k, wrapped
pub int_wrap-shifted : (w : Width) (z : ℤ) (k : ℕ) → FitsSigned w z → cast_signed w ((unsigned w z * 2 ^ k) % 2 ^ bits w) ≡ int_wrap w (z *ℤ pos (2 ^ k))
int_wrap-shifted w z k fits =
    let power = pos (2 ^ k) in
    sym (int_wrap-pos w (unsigned w z * 2 ^ k)) ∙ sym (int_wrap-mul_left w (pos (unsigned w z)) power)
    ∙ ap (λ x. int_wrap w (x *ℤ power)) (int_wrap-unsigned w z fits)

pub ruleset wrapping = (wrapping_add_is, wrapping_sub_is, wrapping_neg_is, int_wrap_fits, int_wrap-unsigned, int_wrap-shifted)

pub ruleset residues = (int_wrap-residue)
