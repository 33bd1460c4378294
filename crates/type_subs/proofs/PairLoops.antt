-- A loop over two lists side by side that looks for a pair that passes a test.
use Rattle.std.proofs.Common.{◌≡◌, ℕ, suc, ◌+◌, ◌≤◌, ◌<◌, Bool, true, false, ◌||◌, List, [], ◌∷◌, length, drop, drop-cons, get_or, refl, ap, ap₂, ◌∙◌, sym, add-one}
use Rattle.std.specs.Prelude.{zip}
use Rattle.std.proofs.Math.ListN.{drop_of_length-le}
use Rattle.std.specs.List.{list_any}

none_zipped : {X Y : Type 0} (xs : List X) (ys : List Y) → ys ≡ [] → zip xs ys ≡ []
none_zipped [] ys h = refl
none_zipped (x ∷ xs) [] h = refl
none_zipped (x ∷ xs) (y ∷ ys) h = absurd (cc)

module _ {X Y : Type 0} (p : X × Y → Bool) (xs : List X) (ys : List Y) where
  -- those from the i-th pair on decide
  abbrev pub LeftPairs : ℕ → Type 0
  LeftPairs i = list_any p (zip (drop i xs) (drop i ys)) ≡ list_any p (zip xs ys)

  pub pairs_last : (i : ℕ) → LeftPairs i → length xs ≤ i → false ≡ list_any p (zip xs ys)
  pairs_last i was past = sym (ap (λ l. list_any p (zip l (drop i ys))) (drop_of_length-le xs {i = i} past)) ∙ was

  pub pairs_short : (i : ℕ) → LeftPairs i → length ys ≤ i → false ≡ list_any p (zip xs ys)
  pairs_short i was past = sym (ap (list_any p) (none_zipped (drop i xs) (drop i ys) (drop_of_length-le ys {i = i} past))) ∙ was

  module _ (i : ℕ) (x : X) (y : Y) (was : LeftPairs i) (first : i < length xs) (here : get_or xs i x ≡ x) (second : i < length ys) (there : get_or ys i y ≡ y) where
    fronts : zip (drop i xs) (drop i ys) ≡ (x, y) ∷ zip (drop (i + 1) xs) (drop (i + 1) ys)
    fronts = rw add-one (ap₂ zip (drop-cons xs i x first ∙ ap (λ (z : X). z ∷ drop (suc i) xs) here) (drop-cons ys i y second ∙ ap (λ (z : Y). z ∷ drop (suc i) ys) there))

    pub pairs_found : p (x, y) ≡ true → true ≡ list_any p (zip xs ys)
    pairs_found h = sym (ap (list_any p) fronts ∙ ap (λ b. b || list_any p (zip (drop (i + 1) xs) (drop (i + 1) ys))) h) ∙ was

    pub pairs_next : p (x, y) ≡ false → LeftPairs (i + 1)
    pairs_next h = sym (ap (list_any p) fronts ∙ ap (λ b. b || list_any p (zip (drop (i + 1) xs) (drop (i + 1) ys))) h) ∙ was
