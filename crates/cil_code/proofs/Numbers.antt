-- Numbers of four bytes, one after the other.
use Rattle.std.proofs.Common.{◌≡◌, ℕ, suc, ◌+◌, ◌-◌, ◌*◌, ◌<◌, List, [], ◌∷◌, ◌++◌, drop, sym, ap, ◌∙◌, append_assoc, arith}
use Rattle.std.proofs.lemmas.List.{drop-drop}
use Rattle.byteorder.specs.Endian.{little_number}
use Rattle.cil_code.specs.Reading.{numbers}

-- one more number is read
pub numbers_more : (ns : List ℕ) (count i : ℕ) (bytes all : List ℕ) → i < count
    → ns ++ numbers (count - i) (drop (4 * i) bytes) ≡ all
    → (ns ++ little_number 4 (drop (4 * i) bytes) ∷ []) ++ numbers (count - (i + 1)) (drop (4 * (i + 1)) bytes) ≡ all
numbers_more ns count i bytes all below so_far =
    let left : count - i ≡ suc (count - (i + 1)) = omega arith in
    let places : 4 * i + 4 ≡ 4 * (i + 1) = omega arith in
    let rest : drop 4 (drop (4 * i) bytes) ≡ drop (4 * (i + 1)) bytes = drop-drop 4 (4 * i) bytes ∙ ap (λ (n : ℕ). drop n bytes) places in
    let number : ℕ = little_number 4 (drop (4 * i) bytes) in
    let split : numbers (count - i) (drop (4 * i) bytes) ≡ number ∷ numbers (count - (i + 1)) (drop (4 * (i + 1)) bytes) =
    ap (λ (n : ℕ). numbers n (drop (4 * i) bytes)) left
    ∙ ap (λ (b : List ℕ). number ∷ numbers (count - (i + 1)) b) rest in
    append_assoc ns (number ∷ []) (numbers (count - (i + 1)) (drop (4 * (i + 1)) bytes))
    ∙ ap (λ (xs : List ℕ). ns ++ xs) (sym split)
    ∙ so_far
