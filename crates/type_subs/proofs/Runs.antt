-- A walk over the run of a definition's methods.
use Rattle.std.proofs.Common.{◌≡◌, ℕ, suc, ◌+◌, ◌-◌, ◌≤◌, ◌<◌, Bool, true, false, ◌||◌, List, [], ◌∷◌, length, take, drop, Some, slice_get, refl, ap, ap₂, ◌∙◌, sym, arith, IsTrue, drop-cons, leb-true}
use Rattle.std.proofs.lemmas.Bool.{and_parts}
use Rattle.std.proofs.lemmas.Option.{slice_get_within, get_or_from_slice_get}
use Rattle.std.specs.List.{list_any}
use Rattle.type_tree.specs.declared.definition.Def.{Def}
use Rattle.type_tree.specs.Fits.{def_fits}
use Rattle.type_tree.specs.Whole.{counts}
use Rattle.type_tree.specs.World.{Facts}

-- the run of a definition's methods ends by the count of all
pub methods_within : (w : Facts) (d : Def) → IsTrue (def_fits (counts w) d) → d.first_method + d.methods ≤ length w.methods
methods_within w d h =
    let a = (and_parts _ _ h).0 in let b = (and_parts _ _ a).0 in let c = (and_parts _ _ b).0 in let e = (and_parts _ _ c).0 in
    leb-true (d.first_method + d.methods) (length w.methods) (and_parts _ _ (and_parts _ _ e).1).1

module _ {A : Type 0} (p : A → Bool) (xs : List A) (first count : ℕ) where
  -- what is left of the run from the k-th member
  abbrev rest : ℕ → List A
  rest k = take (count - k) (drop (first + k) xs)

  -- none before the k-th passes
  abbrev pub Walk : ℕ → Type 0
  Walk k = list_any p (rest k) ≡ list_any p (take count (drop first xs))

  pub walk_first : Walk 0
  walk_first = let a : count - 0 ≡ count = omega arith in let b : first + 0 ≡ first = omega arith in ap₂ (λ m n. list_any p (take m (drop n xs))) a b

  none_taken : (ys : List A) → take 0 ys ≡ []
  none_taken [] = refl
  none_taken (y ∷ ys) = refl

  pub walk_last : (k : ℕ) → Walk k → count ≤ k → false ≡ list_any p (take count (drop first xs))
  walk_last k was past = let a : count - k ≡ 0 = omega arith in sym (ap (λ m. list_any p (take m (drop (first + k) xs))) a ∙ ap (list_any p) (none_taken (drop (first + k) xs))) ∙ was

  module _ (k : ℕ) (was : Walk k) (x : A) (inside : k < count) (here : slice_get xs (first + k) ≡ Some x) where
    next : rest k ≡ x ∷ rest (k + 1)
    next =
        let i : ℕ = first + k in
        let within = slice_get_within xs i x here in
        let row : drop i xs ≡ x ∷ drop (suc i) xs = drop-cons xs i x within ∙ ap (λ y. y ∷ drop (suc i) xs) (get_or_from_slice_get xs i x x here) in
        let left : count - k ≡ suc (count - (k + 1)) = omega arith in
        let after : suc i ≡ first + (k + 1) = omega arith in
        ap₂ take left row ∙ ap (λ j. x ∷ take (count - (k + 1)) (drop j xs)) after

    pub walk_found : p x ≡ true → true ≡ list_any p (take count (drop first xs))
    walk_found h = sym (ap (list_any p) next ∙ ap (λ b. b || list_any p (rest (k + 1))) h) ∙ was

    pub walk_next : p x ≡ false → Walk (k + 1)
    walk_next h = sym (ap (list_any p) next ∙ ap (λ b. b || list_any p (rest (k + 1))) h) ∙ was
