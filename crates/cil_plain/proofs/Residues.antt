-- What the lowest bits of a number of 64 bits stand for.
use Rattle.std.proofs.Common.{◌≡◌, pow_mono, ℕ, ◌+◌, ◌-◌, ◌*◌, ◌/◌, ◌%◌, ◌^◌, ◌<◌, ◌≤◌, ℤ, pos, negsuc, FitsSigned, refl, sym, ap, subst, ◌∙◌, arith}
use Rattle.std.specs.Prelude.{unsigned_abs}
use Rattle.std.specs.Int.{w8, w16, w32, w64, cast_signed, int_rem_euclid, int_wrap}
use Rattle.std.proofs.lemmas.Int.{int_wrap_fits, SFits-int_wrap, of_z-to_z, to_z-of_z}
use Rattle.std.proofs.lemmas.Nat.{mod-mul-add, mod-pow-add, pow_pos, pow-add}
use Rattle.std.proofs.Math.Nat.{mod-lt, mod-mod, mod-eq_of_lt}
use Rattle.std.proofs.Math.Pow.{mod-mod-pow}
use Rattle.cil_ops.specs.declared.number.Num.{Num}
use Rattle.cil_ops.specs.declared.number.Num.TheVariants.{I4, I8}
use Rattle.cil_ops.specs.Convert.{convert_of}
use Rattle.cil_ops.specs.Number.{integer_of, unsigned, signed}
use Rattle.cil_ops.proofs.Wrapping.{int_wrap-residue, int_wrap-pos}
use Rattle.cil_state.specs.declared.form.IntKind.{IntKind}
use Rattle.cil_state.specs.declared.form.IntKind.TheVariants as int
use Rattle.cil_state.specs.Forms.{int_width, conversion}

-- the lowest k bits, as an unsigned number
abbrev residue : ℕ → ℤ → ℕ
residue k z = unsigned_abs (int_rem_euclid z (pos (2 ^ k)))

residue_small : (k : ℕ) (z : ℤ) → residue k z < 2 ^ k
residue_small k (pos a) = mod-lt a (pow_pos k)
residue_small k (negsuc a) = let p : 0 < 2 ^ k = pow_pos k in omega arith

complement : (c q m r : ℕ) → r < m → ((c + 1 + q) * m - 1 - (q * m + r)) % m ≡ m - 1 - r
complement c q m r h =
    let e : (c + 1 + q) * m - 1 - (q * m + r) ≡ c * m + (m - 1 - r) = grind arith in
    ap (λ z. z % m) e ∙ mod-mul-add c m (m - 1 - r) (omega arith)

-- fewer bits are the lowest of more
residue_fewer : (j k : ℕ) (z : ℤ) → residue (j + k) z % 2 ^ k ≡ residue k z
residue_fewer j k (pos a) = mod-mod-pow a j k
residue_fewer j k (negsuc a) =
    let q = a / 2 ^ k % 2 ^ j in
    let r = a % 2 ^ k in
    let small : r < 2 ^ k = mod-lt a (pow_pos k) in
    let few : q < 2 ^ j = mod-lt (a / 2 ^ k) (pow_pos j) in
    let c = 2 ^ j - 1 - q in
    let split : 2 ^ j ≡ c + 1 + q = omega arith in
    let whole : 2 ^ (j + k) ≡ (c + 1 + q) * 2 ^ k = pow-add 2 j k ∙ ap (λ n. n * 2 ^ k) split in
    ap (λ n. (2 ^ (j + k) - 1 - n) % 2 ^ k) (mod-pow-add a j k) ∙ ap (λ n. (n - 1 - (q * 2 ^ k + r)) % 2 ^ k) whole ∙ complement c q (2 ^ k) r small

-- the bits of a number of 64 bits
bits_are : (z : ℤ) → FitsSigned w64 z → unsigned w64 z ≡ residue 64 z
bits_are z fits = ap (unsigned w64) (sym (int_wrap_fits w64 z fits) ∙ int_wrap-residue w64 z) ∙ of_z-to_z w64 (residue 64 z) (residue_small 64 z)

-- cut to k bits and read again, a number has the same lowest k bits
cut : (j k : ℕ) → j + k ≡ 64 → (z : ℤ) → FitsSigned w64 z → residue k (signed w64 (unsigned w64 z % 2 ^ k)) ≡ residue k z
cut j k whole z fits =
    let n = unsigned w64 z in
    let x = n % 2 ^ k in
    let y = signed w64 x in
    let below_k : x < 2 ^ k = mod-lt n (pow_pos k) in
    let below : x < 2 ^ 64 = subst (λ m. x < 2 ^ m) whole (below_more j k x below_k) in
    let y_is : int_wrap w64 (pos x) ≡ y = int_wrap-pos w64 x ∙ ap (signed w64) (mod-eq_of_lt below) in
    let y_fits : FitsSigned w64 y = subst (FitsSigned w64) y_is (SFits-int_wrap w64 (pos x)) in
    let low : (v : ℤ) → residue 64 v % 2 ^ k ≡ residue k v = λ v. subst (λ m. residue m v % 2 ^ k ≡ residue k v) whole (residue_fewer j k v) in
    sym (low y) ∙ ap (λ m. m % 2 ^ k) (sym (bits_are y y_fits) ∙ of_z-to_z w64 x below) ∙ mod-mod n (2 ^ k) ∙ ap (λ m. m % 2 ^ k) (bits_are z fits) ∙ low z
  where
    below_more : (j k x : ℕ) → x < 2 ^ k → x < 2 ^ (j + k)
    below_more j k x h = let m : 2 ^ k ≤ 2 ^ (j + k) = pow_mono (omega arith) in omega arith

remainder_is : (z : ℤ) (d : ℕ) → int_rem_euclid z (pos d) ≡ pos (unsigned_abs (int_rem_euclid z (pos d)))
remainder_is (pos a) d = refl
remainder_is (negsuc a) d = refl

-- what is read of the bytes of a number is the integer of the kind that the number is cut to
pub number_again : (k : IntKind) (m : Num) → FitsSigned w64 (integer_of m)
    → convert_of (conversion k) (I8 (signed w64 (unsigned w64 (integer_of m) % 256 ^ int_width k))) ≡ convert_of (conversion k) m
number_again int.I1 m fits =
    ap I4 (int_wrap-residue w8 _ ∙ ap (cast_signed w8) (cut 56 8 refl (integer_of m) fits) ∙ sym (int_wrap-residue w8 (integer_of m)))
number_again int.I2 m fits =
    ap I4 (int_wrap-residue w16 _ ∙ ap (cast_signed w16) (cut 48 16 refl (integer_of m) fits) ∙ sym (int_wrap-residue w16 (integer_of m)))
number_again int.I4 m fits =
    ap I4 (int_wrap-residue w32 _ ∙ ap (cast_signed w32) (cut 32 32 refl (integer_of m) fits) ∙ sym (int_wrap-residue w32 (integer_of m)))
number_again int.U1 m fits =
    ap I4 (remainder_is _ (2 ^ 8) ∙ ap pos (cut 56 8 refl (integer_of m) fits) ∙ sym (remainder_is (integer_of m) (2 ^ 8)))
number_again int.U2 m fits =
    ap I4 (remainder_is _ (2 ^ 16) ∙ ap pos (cut 48 16 refl (integer_of m) fits) ∙ sym (remainder_is (integer_of m) (2 ^ 16)))
number_again int.I8 m fits =
    let n = unsigned w64 (integer_of m) in
    let below : n < 2 ^ 64 = subst (λ x. x < 2 ^ 64) (sym (bits_are (integer_of m) fits)) (residue_small 64 (integer_of m)) in
    ap I8 (ap (signed w64) (mod-eq_of_lt below) ∙ to_z-of_z w64 (integer_of m) fits)
