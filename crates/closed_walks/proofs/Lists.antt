-- Elements of lists.
use Rattle.std.proofs.Common.{◌≡◌, ℕ, zero, suc, ◌+◌, ◌-◌, ◌≤◌, ◌<◌, Bool, true, ◌⊎◌, inl, inr, List, [], ◌∷◌, ◌++◌, length, map, take, drop, get_or, refl, ap, ◌∙◌, sym, subst, arith, length-drop, get_or-drop}
use Rattle.std.specs.List.{list_any, Contains}
use Rattle.std.proofs.lemmas.Bool.{cases_Bool}
use Rattle.std.proofs.lemmas.Grind.{get_or_default_zero}
use Rattle.std.proofs.Math.Seq.{take-length}
use Rattle.std.proofs.lemmas.List.{take_more}
use Rattle.std.proofs.lemmas.List.Folds.{list_any_at}
use Rattle.std.proofs.lemmas.List.Elements.{Contains-append_left, Contains-append_right, Contains-append_cases, Contains-push_cases}

pub first_in : {X : Type 0} (x : X) (xs : List X) → Contains (x ∷ xs) x
first_in x xs = (zero, omega arith, refl)

pub later_in : {X : Type 0} (x : X) (xs : List X) (y : X) → Contains xs y → Contains (x ∷ xs) y
later_in x xs y h = Contains-append_right (x ∷ []) xs y h

pub none_in : {X : Type 0} (x : X) → Contains [] x → ⊥
none_in x h = let low : h.0 < 0 = h.1 in omega arith

pub only_in : {X : Type 0} (x y : X) → Contains (x ∷ []) y → x ≡ y
only_in x y h = elim (Contains-push_cases [] x y h) [ inl none ↦ absurd (none_in y none) | inr e ↦ e ]

pub in_cons : {X : Type 0} (x : X) (xs : List X) (y : X) → Contains (x ∷ xs) y → (x ≡ y) ⊎ Contains xs y
in_cons x xs y h = elim (Contains-append_cases (x ∷ []) xs y h) [ inl here ↦ inl (only_in x y here) | inr later ↦ inr later ]

pub map_in : {X Y : Type 0} (f : X → Y) (xs : List X) (x : X) → Contains xs x → Contains (map f xs) (f x)
map_in f [] x h = absurd (none_in x h)
map_in f (a ∷ xs) x h = elim (in_cons a xs x h) [
  | inl e ↦ subst (λ v. Contains (map f (a ∷ xs)) (f v)) e (first_in (f a) (map f xs))
  | inr later ↦ later_in (f a) (map f xs) (f x) (map_in f xs x later)
]

pub map_from : {X Y : Type 0} (f : X → Y) (xs : List X) (y : Y) → Contains (map f xs) y → (x : X) × Contains xs x × (f x ≡ y)
map_from f [] y h = absurd (none_in y h)
map_from f (a ∷ xs) y h = elim (in_cons (f a) (map f xs) y h) [
  | inl e ↦ (a, first_in a xs, e)
  | inr later ↦ let r = map_from f xs y later in (r.0, later_in a xs r.0 r.1, r.2)
]

pub any_has : {X : Type 0} (p : X → Bool) (xs : List X) → list_any p xs ≡ true → (x : X) × Contains xs x × (p x ≡ true)
any_has p [] h = absurd (cc)
any_has p (x ∷ xs) h = elim (cases_Bool (p x)) [
  | inl e ↦ (x, first_in x xs, e)
  | inr e ↦ let r = any_has p xs (rw e at h) in (r.0, later_in x xs r.0 r.1, r.2)
]

pub has_any : {X : Type 0} (p : X → Bool) (xs : List X) (x : X) → Contains xs x → p x ≡ true → list_any p xs ≡ true
has_any p xs x h e = list_any_at p xs h.0 x h.1 (ap p h.2 ∙ e)

-- what stands behind a place
pub in_drop : (q : ℕ) (xs : List ℕ) (v : ℕ) → Contains (drop q xs) v → (j : ℕ) × (q ≤ j) × (j < length xs) × (get_or xs j 0 ≡ v)
in_drop q xs v h =
    let long = length-drop q xs in
    let below = h.1 in
    let inside : q + h.0 < length xs = omega arith in
    (q + h.0, omega arith, inside, sym (get_or_default_zero xs (q + h.0) v inside) ∙ sym (get_or-drop q xs h.0 v) ∙ h.2)

pub drop_in : (q : ℕ) (xs : List ℕ) (j : ℕ) → q ≤ j → j < length xs → Contains (drop q xs) (get_or xs j 0)
drop_in q xs j from inside =
    let long = length-drop q xs in
    let v = get_or xs j 0 in
    let at : q + (j - q) ≡ j = omega arith in
    (j - q, omega arith, get_or-drop q xs (j - q) v ∙ ap (λ i. get_or xs i v) at ∙ get_or_default_zero xs j v inside)

-- one element left out
pub removed_in : {X : Type 0} (xs ys : List X) (x y : X) → Contains (xs ++ ys) y → Contains (xs ++ (x ∷ ys)) y
removed_in xs ys x y h = elim (Contains-append_cases xs ys y h) [
  | inl left ↦ Contains-append_left xs (x ∷ ys) y left
  | inr right ↦ Contains-append_right xs (x ∷ ys) y (later_in x ys y right)
]

pub removed_or : {X : Type 0} (xs ys : List X) (x y : X) → Contains (xs ++ (x ∷ ys)) y → (x ≡ y) ⊎ Contains (xs ++ ys) y
removed_or xs ys x y h = elim (Contains-append_cases xs (x ∷ ys) y h) [
  | inl left ↦ inr (Contains-append_left xs ys y left)
  | inr right ↦ elim (in_cons x ys y right) [
    | inl e ↦ inl e
    | inr later ↦ inr (Contains-append_right xs ys y later)
  ]
]

pub ends : {X : Type 0} (x : X) (xs : List X) → (front : List X) × (l : X) × (x ∷ xs ≡ front ++ l ∷ [])
ends x [] = ([], x, refl)
ends x (y ∷ ys) = let r = ends y ys in (x ∷ r.0, r.1, ap (λ l. x ∷ l) r.2)

-- the last element
pub last_of : (xs : List ℕ) → 0 < length xs → xs ≡ take (length xs - 1) xs ++ get_or xs (length xs - 1) 0 ∷ []
last_of xs some =
    let e : length xs - 1 + 1 ≡ length xs = omega arith in
    sym (take-length xs) ∙ ap (λ n. take n xs) (sym e) ∙ take_more xs (length xs - 1) 0 (omega arith)

pub drop-push : (q : ℕ) (xs : List ℕ) (x : ℕ) → q ≤ length xs → drop q (xs ++ x ∷ []) ≡ drop q xs ++ x ∷ []
drop-push zero xs x le = refl
drop-push (suc q) [] x le = absurd (let l : suc q ≤ 0 = le in omega arith)
drop-push (suc q) (a ∷ xs) x le = drop-push q xs x (let l : suc q ≤ suc (length xs) = le in omega arith)
