-- What is made of pairs, one more at a time.
use Rattle.std.proofs.Common.{◌≡◌, ℕ, zero, suc, ◌+◌, ◌≤◌, List, [], ◌∷◌, ◌++◌, take, length, Some, refl, sym, ap, ◌∙◌, arith, slice_get}
use Rattle.std.specs.List.{flat_map, zip}
use Rattle.std.proofs.lemmas.List.{append-nil, take_all}
use Rattle.std.proofs.lemmas.List.Concat.{flat_map-append}

next_pair : {A B : Type 0} (xs : List A) (ys : List B) (k : ℕ) (x : A) (y : B) → slice_get xs k ≡ Some x → slice_get ys k ≡ Some y
    → take (suc k) (zip xs ys) ≡ take k (zip xs ys) ++ (x, y) ∷ []
next_pair [] ys k x y e f = absurd cc
next_pair (a ∷ xs) [] k x y e f = absurd cc
next_pair {A} {B} (a ∷ xs) (b ∷ ys) zero x y e f = let one : a ≡ x = cc in let other : b ≡ y = cc in rw (one, other) refl
next_pair {A} {B} (a ∷ xs) (b ∷ ys) (suc k) x y e f = ap (λ (l : List (A × B)). (a, b) ∷ l) (next_pair xs ys k x y e f)

pairs_within : {A B : Type 0} (xs : List A) (ys : List B) → length (zip xs ys) ≤ length ys
pairs_within [] ys = omega arith
pairs_within (a ∷ xs) [] = omega arith
pairs_within (a ∷ xs) (b ∷ ys) = let rest = pairs_within xs ys in omega arith

module _ {A B : Type 0} (f : (A × B) → List ℕ) (xs : List A) (ys : List B) where
  -- the next pair's text is appended
  pub pair_more : (k : ℕ) (x : A) (y : B) (old new : List ℕ) → slice_get xs k ≡ Some x → slice_get ys k ≡ Some y
      → old ≡ flat_map f (take k (zip xs ys)) → new ≡ old ++ f (x, y) → new ≡ flat_map f (take (k + 1) (zip xs ys))
  pair_more k x y old new one other before more =
      let next : suc k ≡ k + 1 = omega arith in
      more ∙ ap (λ (l : List ℕ). l ++ f (x, y)) before
      ∙ ap (λ (l : List ℕ). flat_map f (take k (zip xs ys)) ++ l) (sym (append-nil (f (x, y))))
      ∙ sym (flat_map-append f (take k (zip xs ys)) ((x, y) ∷ []))
      ∙ ap (flat_map f) (sym (next_pair xs ys k x y one other))
      ∙ ap (λ (n : ℕ). flat_map f (take n (zip xs ys))) next

  pub pairs_all : (k : ℕ) → length ys ≤ k → flat_map f (take k (zip xs ys)) ≡ flat_map f (zip xs ys)
  pairs_all k all =
      let within = pairs_within xs ys in
      let enough : length (zip xs ys) ≤ k = omega arith in
      ap (flat_map f) (take_all k (zip xs ys) enough)
