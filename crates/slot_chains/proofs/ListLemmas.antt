-- Ranges and lists, place by place.
use Rattle.std.proofs.Common.{◌≡◌, ℕ, zero, suc, ◌+◌, ◌<◌, List, [], ◌∷◌, ◌++◌, length, map, Some, slice_get, refl, ap, ap₂, ◌∙◌, add-one, arith}
use Rattle.std.specs.List.{range_with_len}

range-last : (a n : ℕ) → range_with_len a (suc n) ≡ range_with_len a n ++ (a + n) ∷ []
range-last a zero = let e : a ≡ a + 0 = omega arith in ap (λ k. k ∷ []) e
range-last a (suc n) = let e : (a + 1) + n ≡ a + suc n = omega arith in ap (λ l. a ∷ l) (range-last (a + 1) n ∙ ap (λ k. range_with_len (a + 1) n ++ k ∷ []) e)

pub range-more : (n : ℕ) → range_with_len 0 (n + 1) ≡ range_with_len 0 n ++ n ∷ []
range-more n = let e : 0 + n ≡ n = omega arith in rw add-one (range-last 0 n ∙ ap (λ k. range_with_len 0 n ++ k ∷ []) e)

-- a list that has at each place what a function gives there
pub listed : {A : Type 0} → (f : ℕ → A) (xs : List A) (a : ℕ) → ((i : ℕ) → i < length xs → slice_get xs i ≡ Some (f (a + i))) → xs ≡ map f (range_with_len a (length xs))
listed f [] a each = refl
listed f (x ∷ xs) a each =
    let first = each 0 (omega arith) in
    let e : a + 0 ≡ a = omega arith in
    let one : x ≡ f (a + 0) = cc in
    let rest = listed f xs (a + 1) (λ i h. let s : suc i < length (x ∷ xs) = omega (arith, h) in let m : a + suc i ≡ (a + 1) + i = omega arith in each (suc i) s ∙ ap (λ k. Some (f k)) m) in
    ap₂ ◌∷◌ (one ∙ ap f e) rest
