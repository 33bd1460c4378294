-- The number in the bytes behind a place is the number at that place.
use Rattle.std.proofs.Common.{◌≡◌, ℕ, zero, suc, ◌+◌, ◌-◌, List, length, take, drop, refl, ap, ◌∙◌, arith}
use Rattle.std.proofs.lemmas.List.{get_or-drop, take_rest}
use Rattle.byteorder.specs.Endian.{little_from, little_number}
use Rattle.clr_base.specs.LittleEndian.{number_at}

little_from-drop : (n at i : ℕ) (bytes : List ℕ) → little_from i n (drop at bytes) ≡ little_from (at + i) n bytes
little_from-drop zero at i bytes = refl
little_from-drop (suc n) at i bytes =
    let byte = get_or-drop at bytes i 0 in
    let rest = little_from-drop n at (suc i) bytes in
    let next : at + suc i ≡ suc (at + i) = omega arith in
    rw (byte, rest, next) refl

-- the bytes behind a place, as `&bytes[at..]` gives them
pub number_behind : (n at : ℕ) (bytes : List ℕ) → little_number n (take (length bytes - at) (drop at bytes)) ≡ number_at n bytes at
unfolding number_at
number_behind n at bytes =
    let start : at + 0 ≡ at = omega arith in
    ap (little_number n) (take_rest bytes at) ∙ little_from-drop n at 0 bytes ∙ ap (λ (i : ℕ). little_from i n bytes) start
