-- Numbers that are noted, a bit for each.
use Rattle.std.proofs.Common.{◌≡◌, ◌≢◌, ℕ, zero, suc, ◌*◌, ◌/◌, ◌%◌, ◌^◌, ◌<◌, ◌≤◌, inl, inr, Bool, true, false, ◌||◌, eqb, List, [], ◌∷◌, ◌++◌, length, set, get_or, replicate, take, refl, sym, ap, ◌∙◌, arith}
use Rattle.std.specs.Int.{bit_at, w8}
use Rattle.std.specs.Int.Bits.{bit_or}
use Rattle.std.proofs.lemmas.Bool.Decides.{eqb_tells}
use Rattle.std.proofs.lemmas.Nat.Bits.{bit_at_set_same, bit_at_set_other, bit_at-zero}
use Rattle.std.proofs.lemmas.List.{get_or-set_same, get_or-set_other, take_all}
use Rattle.image_rows.specs.BitNotes.{is_noted, HavePassed}

or_true : (b : Bool) → b || true ≡ true
or_true true = refl
or_true false = refl

or_false : (b : Bool) → b || false ≡ b
or_false true = refl
or_false false = refl

-- a byte with the bit of a number set
abbrev pub with_bit : List ℕ → ℕ → ℕ
with_bit xs number = bit_or (get_or xs (number / 8) 0) (1 * 2 ^ (number % 8) % 2 ^ 8)

module _ (xs : List ℕ) (number other : ℕ) (within : number / 8 < length xs) where
  same_number : other ≡ number → is_noted (set xs (number / 8) (with_bit xs number)) other ≡ true
  same_number is =
      rw (is, get_or-set_same xs (number / 8) (with_bit xs number) 0 within, bit_at_set_same w8 (get_or xs (number / 8) 0) (number % 8) (omega arith)) refl

  same_byte : other / 8 ≡ number / 8 → other % 8 ≢ number % 8 → is_noted (set xs (number / 8) (with_bit xs number)) other ≡ is_noted xs other
  same_byte byte differs =
      rw (byte, get_or-set_same xs (number / 8) (with_bit xs number) 0 within, bit_at_set_other w8 (get_or xs (number / 8) 0) (number % 8) (omega arith) (other % 8) differs) refl

  other_byte : other / 8 ≢ number / 8 → is_noted (set xs (number / 8) (with_bit xs number)) other ≡ is_noted xs other
  other_byte differs = rw (get_or-set_other xs (number / 8) (other / 8) (with_bit xs number) 0 differs) refl

  other_number : other ≢ number → is_noted (set xs (number / 8) (with_bit xs number)) other ≡ is_noted xs other
  other_number differs = elim (eqb_tells (other / 8) (number / 8)) [
    | inl p ↦ same_byte p.1 (λ e. let is : other ≡ number = omega arith in differs is)
    | inr p ↦ other_byte p.1
  ]

  pub noted_too : is_noted (set xs (number / 8) (with_bit xs number)) other ≡ is_noted xs other || eqb other number
  noted_too = elim (eqb_tells other number) [
    | inl p ↦ rw p.0 (same_number p.1 ∙ sym (or_true (is_noted xs other)))
    | inr p ↦ rw p.0 (other_number p.1 ∙ sym (or_false (is_noted xs other)))
  ]

-- ---- zeros behind

zeros : (m k : ℕ) → get_or {A = ℕ} (replicate m 0) k 0 ≡ 0
zeros zero k = refl
zeros (suc m) zero = refl
zeros (suc m) (suc k) = zeros m k

padded : (xs : List ℕ) (m k : ℕ) → get_or (xs ++ replicate m 0) k 0 ≡ get_or xs k 0
padded [] m k = zeros m k
padded (x ∷ xs) m zero = refl
padded (x ∷ xs) m (suc k) = padded xs m k

pub noted_padded : (xs ys : List ℕ) (n m number : ℕ) → length xs ≤ n → ys ≡ take n xs ++ replicate m 0 → is_noted ys number ≡ is_noted xs number
noted_padded xs ys n m number all is =
    ap (λ zs. is_noted zs number) (is ∙ ap (λ zs. zs ++ replicate m 0) (take_all n xs all))
    ∙ ap (λ byte. eqb (bit_at byte (number % 8)) 1) (padded xs m (number / 8))

-- ---- what is noted has passed

zero_bit : (k : ℕ) → eqb (bit_at 0 k) 1 ≡ true → ⊥
zero_bit k e = let f : eqb 0 1 ≡ true = rw (bit_at-zero k) at e in cc

pub nothing_noted : (test : ℕ → Bool) (noted : List ℕ) → noted ≡ [] → HavePassed test noted
nothing_noted test noted empty = record {
  each = λ number e.
      let none : is_noted [] number ≡ true = rw empty at e in
      absurd (zero_bit (number % 8) none);
}

pub one_more : (test : ℕ → Bool) (before after : List ℕ) (number : ℕ) → HavePassed test before → test number ≡ true
    → ((other : ℕ) → is_noted after other ≡ is_noted before other || eqb other number) → HavePassed test after
one_more test before after number passed here noted = record {
  each = λ other e. elim (eqb_tells other number) [
    | inl p ↦ ap test p.1 ∙ here
    | inr p ↦ let was : is_noted before other || false ≡ true = rw (noted other, p.0) at e in passed.each other (sym (or_false (is_noted before other)) ∙ was)
  ];
}
