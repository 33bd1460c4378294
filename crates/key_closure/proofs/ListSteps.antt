-- What adding keeps.
use Rattle.std.proofs.Common.{◌≡◌, ℕ, zero, suc, ◌<◌, Bool, true, false, ◌&&◌, ◌⊎◌, inl, inr, List, [], ◌∷◌, ◌++◌, Some, slice_get, refl, ap, ◌∙◌, sym, subst, arith, append-nil, append_assoc}
use Rattle.std.specs.List.{list_all, Contains}
use Rattle.std.proofs.lemmas.Bool.{and_parts}
use Rattle.std.proofs.lemmas.List.Elements.{Contains-append_left, Contains-append_right, Contains-append_cases, Contains-push, Contains-push_cases}
use Rattle.std.proofs.lemmas.List.Folds.{list_all-append}
use Rattle.key_closure.specs.Closures.{Adds, AddsAll}

bool_and : (b c : Bool) → (b ≡ true → c ≡ true) → b ≡ (b && (c && true))
bool_and false c f = refl
bool_and true c f = rw (f refl) refl

and_one : (b c : Bool) → (b && (c && true)) ≡ (b && c)
and_one false c = refl
and_one true false = refl
and_one true true = refl

pub and_assoc : (a b c : Bool) → ((a && b) && c) ≡ (a && (b && c))
and_assoc false b c = refl
and_assoc true b c = refl

module _ {X : Type 0} where
  pub first_in : (x : X) (xs : List X) → Contains (x ∷ xs) x
  first_in x xs = (zero, omega arith, refl)

  pub none_in : (x : X) → Contains [] x → ⊥
  none_in x h = let low : h.0 < 0 = h.1 in omega arith

  pub only_in : (x y : X) → Contains (x ∷ []) y → x ≡ y
  only_in x y h = elim (Contains-push_cases [] x y h) [ inl none ↦ absurd (none_in y none) | inr e ↦ e ]

  -- the first, or a later one
  pub in_cases : (x : X) (xs : List X) (y : X) → Contains (x ∷ xs) y → (x ≡ y) ⊎ Contains xs y
  in_cases x xs y h = elim (Contains-append_cases (x ∷ []) xs y h) [ inl here ↦ inl (only_in x y here) | inr later ↦ inr later ]

  pub later_in : (x : X) (xs : List X) (y : X) → Contains xs y → Contains (x ∷ xs) y
  later_in x xs y h = Contains-append_right (x ∷ []) xs y h

  pub contains_at : (xs : List X) (i : ℕ) (x : X) → slice_get xs i ≡ Some x → Contains xs x
  contains_at [] i x h = absurd (cc)
  contains_at (z ∷ zs) zero x h = let e : z ≡ x = cc in subst (λ (v : X). Contains (z ∷ zs) v) e (first_in z zs)
  contains_at (z ∷ zs) (suc i) x h = later_in z zs x (contains_at zs i x h)

  pub all_in : (p : X → Bool) (xs : List X) (x : X) → list_all p xs ≡ true → Contains xs x → p x ≡ true
  all_in p [] x h c = absurd (none_in x c)
  all_in p (z ∷ zs) x h c =
      let parts = and_parts (p z) (list_all p zs) h in
      elim (in_cases z zs x c) [ inl e ↦ ap p (sym e) ∙ parts.0 | inr later ↦ all_in p zs x parts.1 later ]

  -- what was listed stays in front
  pub adds_front : (xs : List X) (x : X) (ys : List X) → Adds xs x ys → (more : List X) × (ys ≡ xs ++ more)
  adds_front xs x ys a = elim a [ inl old ↦ ([], old.1 ∙ sym (append-nil xs)) | inr new ↦ (x ∷ [], new.1) ]

  pub all_front : (xs more ys : List X) → AddsAll xs more ys → (rest : List X) × (ys ≡ xs ++ rest)
  all_front xs [] ys a = ([], a ∙ sym (append-nil xs))
  all_front xs (x ∷ more) ys a =
      let one = adds_front xs x a.0 a.1 in let rest = all_front a.0 more ys a.2 in
      (one.0 ++ rest.0, rest.1 ∙ (ap (λ l. l ++ rest.0) one.1 ∙ append_assoc xs one.0 rest.0))

  -- a test of all passes exactly where it does of both
  pub adds_all : (p : X → Bool) (xs : List X) (x : X) (ys : List X) → Adds xs x ys → list_all p ys ≡ (list_all p xs && p x)
  adds_all p xs x ys a = elim a [
    | inl old ↦ ap (list_all p) old.1 ∙ (bool_and (list_all p xs) (p x) (λ h. all_in p xs x h old.0) ∙ and_one (list_all p xs) (p x))
    | inr new ↦ ap (list_all p) new.1 ∙ (list_all-append p xs (x ∷ []) ∙ and_one (list_all p xs) (p x))
  ]

  pub all_all : (p : X → Bool) (xs more ys : List X) → AddsAll xs more ys → list_all p ys ≡ (list_all p xs && list_all p more)
  all_all p xs [] ys a = ap (list_all p) a ∙ with_true (list_all p xs)
    where
      with_true : (b : Bool) → b ≡ (b && true)
      with_true false = refl
      with_true true = refl
  all_all p xs (x ∷ more) ys a =
      all_all p a.0 more ys a.2 ∙ (ap (λ b. b && list_all p more) (adds_all p xs x a.0 a.1) ∙ and_assoc (list_all p xs) (p x) (list_all p more))

  -- one result
  pub adds_one : (xs : List X) (x : X) (ys zs : List X) → Adds xs x ys → Adds xs x zs → ys ≡ zs
  adds_one xs x ys zs a b = elim a [
    | inl old ↦ elim b [ inl too ↦ old.1 ∙ sym too.1 | inr new ↦ absurd (new.0 old.0) ]
    | inr new ↦ elim b [ inl old ↦ absurd (new.0 old.0) | inr too ↦ new.1 ∙ sym too.1 ]
  ]

  pub all_one : (xs more ys zs : List X) → AddsAll xs more ys → AddsAll xs more zs → ys ≡ zs
  all_one xs [] ys zs a b = a ∙ sym b
  all_one xs (x ∷ more) ys zs a b =
      let e : a.0 ≡ b.0 = adds_one xs x a.0 b.0 a.1 b.1 in
      all_one b.0 more ys zs (subst (λ (l : List X). AddsAll l more ys) e a.2) b.2

  -- each that was listed or is added, and no other
  adds_has : (xs : List X) (x : X) (ys : List X) → Adds xs x ys → Contains ys x
  adds_has xs x ys a = elim a [
    | inl old ↦ subst (λ (l : List X). Contains l x) (sym old.1) old.0
    | inr new ↦ subst (λ (l : List X). Contains l x) (sym new.1) (Contains-push xs x)
  ]

  adds_from : (xs : List X) (x : X) (ys : List X) (y : X) → Adds xs x ys → Contains ys y → Contains xs y ⊎ (x ≡ y)
  adds_from xs x ys y a c = elim a [
    | inl old ↦ inl (subst (λ (l : List X). Contains l y) old.1 c)
    | inr new ↦ Contains-push_cases xs x y (subst (λ (l : List X). Contains l y) new.1 c)
  ]

  pub all_keeps : (xs more ys : List X) (y : X) → AddsAll xs more ys → Contains xs y → Contains ys y
  all_keeps xs more ys y a c = let f = all_front xs more ys a in subst (λ (l : List X). Contains l y) (sym f.1) (Contains-append_left xs f.0 y c)

  pub all_has : (xs more ys : List X) (y : X) → AddsAll xs more ys → Contains more y → Contains ys y
  all_has xs [] ys y a c = absurd (none_in y c)
  all_has xs (x ∷ more) ys y a c = elim (in_cases x more y c) [
    | inl e ↦ all_keeps a.0 more ys y a.2 (subst (λ (v : X). Contains a.0 v) e (adds_has xs x a.0 a.1))
    | inr later ↦ all_has a.0 more ys y a.2 later
  ]

  pub all_from : (xs more ys : List X) (y : X) → AddsAll xs more ys → Contains ys y → Contains xs y ⊎ Contains more y
  all_from xs [] ys y a c = inl (subst (λ (l : List X). Contains l y) a c)
  all_from xs (x ∷ more) ys y a c = elim (all_from a.0 more ys y a.2 c) [
    | inl before ↦ elim (adds_from xs x a.0 y a.1 before) [
      | inl old ↦ inl old
      | inr e ↦ inr (subst (λ (v : X). Contains (x ∷ more) v) e (first_in x more))
    ]
    | inr later ↦ inr (later_in x more y later)
  ]
