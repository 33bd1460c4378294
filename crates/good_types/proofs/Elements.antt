-- Elements of lists, one by one.
use Rattle.std.proofs.Common.{◌≡◌, zero, ◌<◌, Bool, true, false, ◌⊎◌, inl, inr, List, [], ◌∷◌, map, refl, ap, ◌∙◌, sym, subst, arith, true≢false}
use Rattle.std.specs.List.{list_all, list_any, Contains}
use Rattle.std.proofs.lemmas.Bool.{and_parts, or_parts, or_cases, or_left, or_right}
use Rattle.std.specs.Coded.{Coded}
use Rattle.std.proofs.lemmas.List.Elements.{Contains-append_right, Contains-append_cases, Contains-push_cases}
use Rattle.type_tree.specs.Same.{same}
use Rattle.type_tree.specs.SameLaws.{same_is, is_same}

module _ {X : Type 0} where
  pub first_in : (x : X) (xs : List X) → Contains (x ∷ xs) x
  first_in x xs = (zero, omega arith, refl)

  pub none_in : (x : X) → Contains [] x → ⊥
  none_in x h = let low : h.0 < 0 = h.1 in omega arith

  only_in : (x y : X) → Contains (x ∷ []) y → x ≡ y
  only_in x y h = elim (Contains-push_cases [] x y h) [ inl none ↦ absurd (none_in y none) | inr e ↦ e ]

  -- the first, or a later one
  pub in_cases : (x : X) (xs : List X) (y : X) → Contains (x ∷ xs) y → (x ≡ y) ⊎ Contains xs y
  in_cases x xs y h = elim (Contains-append_cases (x ∷ []) xs y h) [ inl here ↦ inl (only_in x y here) | inr later ↦ inr later ]

  pub later_in : (x : X) (xs : List X) (y : X) → Contains xs y → Contains (x ∷ xs) y
  later_in x xs y h = Contains-append_right (x ∷ []) xs y h

  pub all_in : (p : X → Bool) (xs : List X) (x : X) → list_all p xs ≡ true → Contains xs x → p x ≡ true
  all_in p [] x h c = absurd (none_in x c)
  all_in p (z ∷ zs) x h c =
      let parts = and_parts (p z) (list_all p zs) h in
      elim (in_cases z zs x c) [ inl e ↦ ap p (sym e) ∙ parts.0 | inr later ↦ all_in p zs x parts.1 later ]

  pub none_of : (p : X → Bool) (xs : List X) (x : X) → list_any p xs ≡ false → Contains xs x → p x ≡ false
  none_of p [] x h c = absurd (none_in x c)
  none_of p (z ∷ zs) x h c =
      let parts = or_parts (p z) (list_any p zs) h in
      elim (in_cases z zs x c) [ inl e ↦ ap p (sym e) ∙ parts.0 | inr later ↦ none_of p zs x parts.1 later ]

  pub all_from : (p : X → Bool) (xs : List X) → ((x : X) → Contains xs x → p x ≡ true) → list_all p xs ≡ true
  all_from p [] h = refl
  all_from p (z ∷ zs) h = rw (h z (first_in z zs)) (all_from p zs (λ x c. h x (later_in z zs x c)))

module _ {X Y : Type 0} (f : X → Y) where
  pub map_in : (xs : List X) (x : X) → Contains xs x → Contains (map f xs) (f x)
  map_in [] x c = absurd (none_in x c)
  map_in (z ∷ zs) x c = elim (in_cases z zs x c) [
    | inl e ↦ subst (λ v. Contains (f z ∷ map f zs) v) (ap f e) (first_in (f z) (map f zs))
    | inr later ↦ later_in (f z) (map f zs) (f x) (map_in zs x later)
  ]

  -- what it was made of
  pub map_from : (xs : List X) (y : Y) → Contains (map f xs) y → (x : X) × Contains xs x × (f x ≡ y)
  map_from [] y c = absurd (none_in y c)
  map_from (z ∷ zs) y c = elim (in_cases (f z) (map f zs) y c) [
    | inl e ↦ (z, first_in z zs, e)
    | inr later ↦ let r = map_from zs y later in (r.0, later_in z zs r.0 r.1, r.2)
  ]

-- ---- equal elements, where values have a code

module _ {X : Type 0} (coded : Coded X) where
  -- what a test finds
  pub same_in : (x : X) (xs : List X) → list_any (same coded x) xs ≡ true → Contains xs x
  same_in x [] h = absurd (true≢false (sym h))
  same_in x (z ∷ zs) h = elim (or_cases (same coded x z) (list_any (same coded x) zs) h) [
    | inl e ↦ subst (λ v. Contains (z ∷ zs) v) (sym (same_is coded x z e)) (first_in z zs)
    | inr later ↦ later_in z zs x (same_in x zs later)
  ]

  pub in_same : (x : X) (xs : List X) → Contains xs x → list_any (same coded x) xs ≡ true
  in_same x [] c = absurd (none_in x c)
  in_same x (z ∷ zs) c = elim (in_cases z zs x c) [
    | inl e ↦ or_left (same coded x z) (list_any (same coded x) zs) (is_same coded x z (sym e))
    | inr later ↦ or_right (same coded x z) (list_any (same coded x) zs) (in_same x zs later)
  ]
