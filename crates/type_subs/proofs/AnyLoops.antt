-- A loop that looks for one that passes a test.
use Rattle.std.proofs.Common.{◌≡◌, ℕ, suc, ◌+◌, ◌≤◌, ◌<◌, Bool, true, false, ◌||◌, List, ◌∷◌, length, drop, drop-cons, get_or, ap, ◌∙◌, sym, add-one}
use Rattle.std.proofs.Math.ListN.{drop_of_length-le}
use Rattle.std.specs.List.{list_any}

module _ {X : Type 0} (p : X → Bool) (xs : List X) where
  -- those from the i-th on decide
  abbrev pub Left : ℕ → Type 0
  Left i = list_any p (drop i xs) ≡ list_any p xs

  pub left_last : (i : ℕ) → Left i → length xs ≤ i → false ≡ list_any p xs
  left_last i was past = sym (ap (list_any p) (drop_of_length-le xs {i = i} past)) ∙ was

  module _ (i : ℕ) (x : X) (was : Left i) (inside : i < length xs) (here : get_or xs i x ≡ x) where
    front : drop i xs ≡ x ∷ drop (i + 1) xs
    front = rw add-one (drop-cons xs i x inside ∙ ap (λ (y : X). y ∷ drop (suc i) xs) here)

    pub left_found : p x ≡ true → true ≡ list_any p xs
    left_found h = sym (ap (list_any p) front ∙ ap (λ b. b || list_any p (drop (i + 1) xs)) h) ∙ was

    pub left_next : p x ≡ false → Left (i + 1)
    left_next h = sym (ap (list_any p) front ∙ ap (λ b. b || list_any p (drop (i + 1) xs)) h) ∙ was
