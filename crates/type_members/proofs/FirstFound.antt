-- The first number of a list that passes a test, in a walk that has seen only numbers that don't.
use Rattle.std.proofs.Common.{◌≡◌, ℕ, zero, suc, ◌+◌, ◌<◌, ◌≤◌, Bool, true, false, cond, List, [], ◌∷◌, length, take, get_or, Option, None, Some, refl, sym, ap, ◌∙◌, arith}
use Rattle.std.specs.List.{find}
use Rattle.std.proofs.lemmas.List.{take_all}

module _ (p : ℕ → Bool) where
  -- what stands behind one that doesn't pass
  behind : (x : ℕ) (rest : Option ℕ) (b : Bool) → cond b (Some x) rest ≡ None → (b ≡ false) × (rest ≡ None)
  behind x rest true e = absurd cc
  behind x rest false e = (refl, e)

  passed_by : (x : ℕ) (rest : Option ℕ) → p x ≡ false → cond (p x) (Some x) rest ≡ rest
  passed_by x rest fails = ap (λ (b : Bool). cond b (Some x) rest) fails

  stopped_at : (x : ℕ) (rest : Option ℕ) → p x ≡ true → cond (p x) (Some x) rest ≡ Some x
  stopped_at x rest passes = ap (λ (b : Bool). cond b (Some x) rest) passes

  pub found_here : (xs : List ℕ) (i : ℕ) → i < length xs → find p (take i xs) ≡ None → p (get_or xs i 0) ≡ true → find p xs ≡ Some (get_or xs i 0)
  found_here [] i within before passes = absurd (omega arith)
  found_here (x ∷ xs) zero within before passes = stopped_at x (find p xs) passes
  found_here (x ∷ xs) (suc i) within before passes =
      let parts = behind x (find p (take i xs)) (p x) before in
      passed_by x (find p xs) parts.0 ∙ found_here xs i (omega arith) parts.1 passes

  pub none_more : (xs : List ℕ) (i : ℕ) → i < length xs → find p (take i xs) ≡ None → p (get_or xs i 0) ≡ false → find p (take (i + 1) xs) ≡ None
  none_more xs i within before fails =
      let e : i + 1 ≡ suc i = omega arith in
      ap (λ (n : ℕ). find p (take n xs)) e ∙ one_more xs i within before fails
    where
      one_more : (xs : List ℕ) (i : ℕ) → i < length xs → find p (take i xs) ≡ None → p (get_or xs i 0) ≡ false → find p (take (suc i) xs) ≡ None
      one_more [] i within before fails = absurd (omega arith)
      one_more (x ∷ xs) zero within before fails = passed_by x None fails
      one_more (x ∷ xs) (suc i) within before fails =
          let parts = behind x (find p (take i xs)) (p x) before in
          passed_by x (find p (take (suc i) xs)) parts.0 ∙ one_more xs i (omega arith) parts.1 fails

  pub none_at_all : (xs : List ℕ) (i : ℕ) → length xs ≤ i → find p (take i xs) ≡ None → find p xs ≡ None
  none_at_all xs i past none = ap (find p) (sym (take_all i xs past)) ∙ none
