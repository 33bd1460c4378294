-- Numbers in bytes, the lowest first.
use Rattle.std.proofs.Common.{◌≡◌, ℕ, zero, suc, ◌+◌, ◌*◌, ◌/◌, ◌%◌, ◌^◌, ◌<◌, ◌≤◌, List, [], ◌∷◌, ◌++◌, length, get_or, take, drop, slice_index, refl, sym, ap, ◌∙◌, arith}
use Rattle.std.proofs.Math.Nat.{pow-suc}
use Rattle.std.proofs.lemmas.List.{get_or-take}
use Rattle.byteorder.specs.Endian.{little_from, little_number}
use Rattle.cil_code.specs.Spelling.{bytes_of}

abbrev pub IsBytes : List ℕ → Type 0
IsBytes bytes = (i : ℕ) → get_or bytes i 0 < 256

pub IsBytes-rest : (text rest : List ℕ) → IsBytes (text ++ rest) → IsBytes rest
IsBytes-rest [] rest h = h
IsBytes-rest (b ∷ text) rest h = IsBytes-rest text rest (λ i. h (suc i))

-- a byte in front moves the places on
moved : (i n b : ℕ) (bytes : List ℕ) → little_from (suc i) n (b ∷ bytes) ≡ little_from i n bytes
moved i zero b bytes = refl
moved i (suc n) b bytes = ap (λ (m : ℕ). slice_index bytes i + 256 * m) (moved (suc i) n b bytes)

pub number_cons : (n b : ℕ) (bytes : List ℕ) → little_number (suc n) (b ∷ bytes) ≡ b + 256 * little_number n bytes
number_cons n b bytes = ap (λ (m : ℕ). b + 256 * m) (moved 0 n b bytes)

number_from-take : (i n m : ℕ) (bytes : List ℕ) → i + n ≤ m → little_from i n (take m bytes) ≡ little_from i n bytes
number_from-take i zero m bytes h = refl
number_from-take i (suc n) m bytes h =
    let byte = get_or-take m bytes i 0 (omega arith) in
    let rest = number_from-take (suc i) n m bytes (omega arith) in
    rw (byte, rest) refl

-- only the first bytes count
pub number-take : (n m : ℕ) (bytes : List ℕ) → n ≤ m → little_number n (take m bytes) ≡ little_number n bytes
number-take n m bytes h = number_from-take 0 n m bytes (omega (arith, h))

pub length-bytes_of : (n x : ℕ) → length (bytes_of n x) ≡ n
length-bytes_of zero x = refl
length-bytes_of (suc n) x = let e = length-bytes_of n (x / 256) in omega (arith, e)

-- what was written is read, whatever follows
pub number-bytes_of : (n x : ℕ) (rest : List ℕ) → x < 256 ^ n → little_number n (bytes_of n x ++ rest) ≡ x
number-bytes_of zero x rest fits = omega (arith, fits)
number-bytes_of (suc n) x rest fits =
    let power : 256 ^ suc n ≡ 256 * 256 ^ n = omega (arith, pow-suc 256 n) in
    let below : x / 256 < 256 ^ n = omega (arith, fits, power) in
    let tail = number-bytes_of n (x / 256) rest below in
    number_cons n (x % 256) (bytes_of n (x / 256) ++ rest) ∙ ap (λ (m : ℕ). x % 256 + 256 * m) tail ∙ omega arith

pub drop-bytes_of : (n x : ℕ) (rest : List ℕ) → drop n (bytes_of n x ++ rest) ≡ rest
drop-bytes_of zero x rest = refl
drop-bytes_of (suc n) x rest = drop-bytes_of n (x / 256) rest

-- what is read was written so
pub bytes_of-number : (n : ℕ) (bytes : List ℕ) → n ≤ length bytes → IsBytes bytes → bytes ≡ bytes_of n (little_number n bytes) ++ drop n bytes
bytes_of-number zero bytes within fits = refl
bytes_of-number (suc n) [] within fits = absurd (omega (arith, within))
bytes_of-number (suc n) (b ∷ bytes) within fits =
    let small : b < 256 = fits 0 in
    let number : ℕ = little_number n bytes in
    let low : (b + 256 * number) % 256 ≡ b = omega (arith, small) in
    let high : (b + 256 * number) / 256 ≡ number = omega (arith, small) in
    let tail = bytes_of-number n bytes (omega (arith, within)) (λ i. fits (suc i)) in
    let whole : bytes_of (suc n) (little_number (suc n) (b ∷ bytes)) ≡ b ∷ bytes_of n number =
    ap (bytes_of (suc n)) (number_cons n b bytes) ∙ ap (λ (x : ℕ). x ∷ bytes_of n ((b + 256 * number) / 256)) low ∙ ap (λ (x : ℕ). b ∷ bytes_of n x) high in
    ap (λ (xs : List ℕ). b ∷ xs) tail ∙ ap (λ (xs : List ℕ). xs ++ drop n bytes) (sym whole)

pub number_fits : (n : ℕ) (bytes : List ℕ) → n ≤ length bytes → IsBytes bytes → little_number n bytes < 256 ^ n
number_fits zero bytes within fits = omega arith
number_fits (suc n) [] within fits = absurd (omega (arith, within))
number_fits (suc n) (b ∷ bytes) within fits =
    let power : 256 ^ suc n ≡ 256 * 256 ^ n = omega (arith, pow-suc 256 n) in
    let tail = number_fits n bytes (omega (arith, within)) (λ i. fits (suc i)) in
    omega (arith, number_cons n b bytes, fits 0, tail, power)
