-- Bytes are a text where they begin with a text of a few bytes and go on as a text.
use Rattle.std.proofs.Common.{◌≡◌, ℕ, zero, suc, ◌<◌, ◌≤◌, min, Bool, true, false, cond, List, [], ◌∷◌, length, take, drop, get_or, None, Some, refl, sym, ap, ◌∙◌, subst, arith}
use Rattle.std.proofs.lemmas.Bool.{and_parts}
use Rattle.std.proofs.lemmas.List.{take-append-drop, take_at, take-take, length-append}
use Rattle.std.specs.Str.{IsUtf8, IsValidUpTo, is_utf8, encode_utf8_all}
use Rattle.std.proofs.lemmas.Str.{IsUtf8-from_ascii, IsUtf8-append, IsUtf8-drop, IsUtf8-encode, IsUtf8-from_is_utf8, is_utf8-from_IsUtf8, IsCharBoundary-from_take, length-encode, len_utf8_bounds}
use Rattle.std.specs.Char.{encode_utf8}
use Rattle.clr_base.specs.declared.image_fault.FaultKind.TheVariants.{BadText}
use Rattle.cli_tables.specs.TextFaults.{bytes_fault}

-- the bytes begin with a text of n bytes, not more than a character has
pub record Begins (bs : List ℕ) (n : ℕ) : Type 0 where
  pub some : 0 < n
  pub few : n ≤ 4
  pub fits : n ≤ length bs
  pub text : IsUtf8 (take n bs)

-- a text begins with a character
pub begins : (bs : List ℕ) → IsUtf8 bs → 0 < length bs → (n : ℕ) × Begins bs n
begins bs ([], (are, spelt)) some = absurd (omega (arith, ap length spelt))
begins bs (c ∷ cs, (are, spelt)) some =
    let front = encode_utf8 c in
    let rest = encode_utf8_all cs in
    let bounds = len_utf8_bounds c in
    let long = length-encode c in (
      length front,
      record {
        some = omega (arith, bounds.0);
        few = omega (arith, bounds.1);
        fits = omega (arith, ap length spelt, length-append front rest);
        text = subst IsUtf8 (sym (ap (take (length front)) (sym spelt) ∙ take_at front rest (length front) refl)) (IsUtf8-encode c (and_parts _ _ are).0);
      },
    )

-- one byte of ASCII is a text
pub one_byte : (bs : List ℕ) → 0 < length bs → get_or bs 0 0 < 128 → IsUtf8 (take 1 bs)
one_byte [] some small = absurd (omega arith)
one_byte (b ∷ bs) some small = IsUtf8-from_ascii (b ∷ []) (alone b small)
  where
    alone : (b : ℕ) → b < 128 → (i : ℕ) → get_or (b ∷ []) i 0 < 128
    alone b small zero = small
    alone b small (suc i) = omega arith

-- where no front of the first four bytes is a text, the bytes are none
pub no_front : (bs : List ℕ) (len valid : ℕ) → 0 < length bs → len ≡ min (length bs) 4 → valid ≡ 0 → IsValidUpTo (take len bs) valid → ¬ (IsUtf8 bs)
no_front bs len valid some short none up_to u =
    let (n, front) = begins bs u some in
    up_to.longest n (omega (arith, front.some)) (subst IsUtf8 (sym (take-take n len bs (omega (arith, front.few, front.fits)))) front.text)

same_test : (a b : Bool) → (a ≡ true → b ≡ true) → (b ≡ true → a ≡ true) → a ≡ b
same_test true b there back = sym (there refl)
same_test false true there back = back refl
same_test false false there back = refl

-- behind a first text, the rest decides
pub as_the_rest : (bs : List ℕ) (n : ℕ) → n ≤ length bs → IsUtf8 (take n bs) → bytes_fault bs ≡ bytes_fault (drop n bs)
as_the_rest bs n fits front =
    ap (λ b. cond b None (Some BadText))
    (same_test (is_utf8 bs) (is_utf8 (drop n bs))
    (λ all. let u = IsUtf8-from_is_utf8 _ all in is_utf8-from_IsUtf8 _ (IsUtf8-drop bs n u (IsCharBoundary-from_take bs n u fits front)))
    (λ rest. is_utf8-from_IsUtf8 _ (subst IsUtf8 (take-append-drop n bs) (IsUtf8-append (take n bs) (drop n bs) front (IsUtf8-from_is_utf8 _ rest)))))

false_unless : (b : Bool) → (b ≡ true → ⊥) → b ≡ false
false_unless true never = absurd (never refl)
false_unless false never = refl

pub bad : (bs : List ℕ) → ¬ (IsUtf8 bs) → bytes_fault bs ≡ Some BadText
bad bs never = rw (false_unless (is_utf8 bs) (λ all. never (IsUtf8-from_is_utf8 bs all))) refl
