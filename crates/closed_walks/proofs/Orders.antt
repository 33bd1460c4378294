-- Lists in order.
use Rattle.std.proofs.Common.{◌≡◌, ℕ, ◌≤◌, ◌<◌, inl, inr, List, [], ◌∷◌, ◌++◌, length, map, sym, subst, arith, le_refl, length-append, Option, Some, None, MatchOption}
use Rattle.std.specs.List.{Contains}
use Rattle.std.proofs.lemmas.List.Elements.{Contains-append_left, Contains-append_cases, Contains-push, Contains-push_cases}
use Rattle.closed_walks.specs.declared.graph.Edge.{Edge}
use Rattle.closed_walks.specs.declared.search.Pending.{Pending}
use Rattle.closed_walks.specs.Search.{pending_at, EndsBelow, EndsWith}
use Rattle.closed_walks.specs.Invariant.{Rising, Sorted, IsCut}
use Rattle.closed_walks.proofs.Lists.{none_in, only_in, in_cons, map_from, removed_in, ends}

pub sorted_removed : (xs ys : List Pending) (x : Pending) → Sorted (xs ++ (x ∷ ys)) → Sorted (xs ++ ys)
sorted_removed [] ys x s = s.1
sorted_removed (a ∷ xs) ys x s = (λ y h. s.0 y (removed_in xs ys x y h), sorted_removed xs ys x s.1)

pub sorted_last : (xs : List Pending) (x : Pending) → Sorted (xs ++ x ∷ []) → (y : Pending) → Contains (xs ++ x ∷ []) y → y.at ≤ x.at
sorted_last [] x s y h = subst (λ (v : Pending). v.at ≤ x.at) (only_in x y h) (le_refl x.at)
sorted_last (a ∷ xs) x s y h = elim (in_cons a (xs ++ x ∷ []) y h) [
  | inl e ↦ subst (λ (v : Pending). v.at ≤ x.at) e (s.0 x (Contains-push xs x))
  | inr later ↦ sorted_last xs x s.1 y later
]

pub sorted_append : (xs ys : List Pending) → Sorted xs → Sorted ys → ((x y : Pending) → Contains xs x → Contains ys y → x.at ≤ y.at) → Sorted (xs ++ ys)
sorted_append [] ys s t between = t
sorted_append (a ∷ xs) ys s t between = (
  λ y h. elim (Contains-append_cases xs ys y h) [
    | inl left ↦ s.0 y left
    | inr right ↦ between a y (Contains-append_left (a ∷ []) xs a (Contains-push [] a)) right
  ],
  sorted_append xs ys s.1 t (λ x y h k. between x y (removed_in [] xs a x h) k),
)

pub sorted_map : (n : ℕ) (es : List Edge) → Sorted (map (pending_at n) es)
sorted_map n [] = tt
sorted_map n (e ∷ es) = (λ y h. let r = map_from (pending_at n) es y h in subst (λ (v : Pending). n ≤ v.at) r.2 (le_refl n), sorted_map n es)

pub all_below : (q : ℕ) (xs : List Pending) → Sorted xs → EndsBelow q xs → (y : Pending) → Contains xs y → y.at < q
all_below q [] s b y h = absurd (none_in y h)
all_below q (x ∷ xs) s b y h =
    let r = ends x xs in
    let low = b r.0 r.1 r.2 in
    let most = sorted_last r.0 r.1 (subst Sorted r.2 s) y (subst (λ (l : List Pending). Contains l y) r.2 h) in
    omega arith

pub rising_front : (xs : List ℕ) (x : ℕ) → Rising (xs ++ x ∷ []) → Rising xs
rising_front [] x r = tt
rising_front (a ∷ xs) x r = (λ y h. r.0 y (Contains-append_left xs (x ∷ []) y h), rising_front xs x r.1)

pub rising_last : (xs : List ℕ) (x : ℕ) → Rising (xs ++ x ∷ []) → (y : ℕ) → Contains xs y → y < x
rising_last [] x r y h = absurd (none_in y h)
rising_last (a ∷ xs) x r y h = elim (in_cons a xs y h) [
  | inl e ↦ subst (λ (v : ℕ). v < x) e (r.0 x (Contains-push xs x))
  | inr later ↦ rising_last xs x r.1 y later
]

pub rising_push : (xs : List ℕ) (n : ℕ) → Rising xs → ((y : ℕ) → Contains xs y → y < n) → Rising (xs ++ n ∷ [])
rising_push [] n r below = (λ y h. absurd (none_in y h), tt)
rising_push (a ∷ xs) n r below = (
  λ y h. elim (Contains-push_cases xs n y h) [
    | inl left ↦ r.0 y left
    | inr e ↦ subst (λ (v : ℕ). a < v) e (below a (Contains-append_left (a ∷ []) xs a (Contains-push [] a)))
  ],
  rising_push xs n r.1 (λ y h. below y (removed_in [] xs a y h)),
)

-- no start stands behind the last
pub most_start : (xs : List ℕ) (q : ℕ) → Rising xs → EndsWith xs q → (y : ℕ) → Contains xs y → y ≤ q
most_start xs q r e y h = elim (Contains-push_cases e.0 q y (subst (λ (l : List ℕ). Contains l y) e.1 h)) [
  | inl left ↦ let low = rising_last e.0 q (subst Rising e.1 r) y left in omega arith
  | inr same ↦ subst (λ (v : ℕ). v ≤ q) same (le_refl q)
]

pub last_start : (xs : List ℕ) (q : ℕ) → EndsWith xs q → Contains xs q
last_start xs q e = subst (λ (l : List ℕ). Contains l q) (sym e.1) (Contains-push e.0 q)

-- starts behind a place are cut off from the end
pub record IsCutting (place : ℕ) (old new : List ℕ) : Type 0 where
  pub was : (q : ℕ) → Contains new q → Contains old q
  pub kept : (q : ℕ) → Contains old q → q ≤ place → Contains new q
  pub rising : Rising new
  pub shorter : length new ≤ length old

pub cutting_all : (place : ℕ) (old : List ℕ) → Rising old → IsCutting place old old
cutting_all place old r = record { was = λ q has. has; kept = λ q has le. has; rising = r; shorter = omega arith }

pub cutting_more : (place : ℕ) (old xs : List ℕ) (x : ℕ) → IsCutting place old (xs ++ x ∷ []) → place < x → IsCutting place old xs
cutting_more place old xs x c past = record {
  was = λ q has. c.was q (Contains-append_left xs (x ∷ []) q has);
  kept = λ q has le. elim (Contains-push_cases xs x q (c.kept q has le)) [
    | inl left ↦ left
    | inr e ↦ absurd (omega arith)
  ];
  rising = rising_front xs x c.rising;
  shorter = let l = length-append xs (x ∷ []) in let s = c.shorter in omega arith;
}

pub cut_at : (place : ℕ) (old new : List ℕ) (x : ℕ) → IsCutting place old new → EndsWith new x → x ≤ place → IsCut place old new
cut_at place old new x c e le = record {
  was = c.was;
  kept = c.kept;
  rising = c.rising;
  shorter = c.shorter;
  within = λ q has. let m = most_start new x c.rising e q has in omega arith;
}

pub cut_all : (place : ℕ) (old new : List ℕ) → IsCutting place old new → new ≡ [] → IsCut place old new
cut_all place old new c e = record {
  was = c.was;
  kept = c.kept;
  rising = c.rising;
  shorter = c.shorter;
  within = λ q has. absurd (none_in q (subst (λ (l : List ℕ). Contains l q) e has));
}

pub cut_pop : (place : ℕ) (old xs ys : List ℕ) (x : ℕ) (r : Option ℕ) → EndsWith xs x → place < x → MatchOption r ((xs ≡ []) × (ys ≡ [])) (λ l. xs ≡ ys ++ l ∷ []) → IsCutting place old xs → IsCutting place old ys
cut_pop place old xs ys x None e past m c = absurd (none_in x (subst (λ (l : List ℕ). Contains l x) m.0 (last_start xs x e)))
cut_pop place old xs ys x (Some l) e past m c =
    let le = most_start xs l c.rising (ys, m) x (last_start xs x e) in
    cutting_more place old ys l (subst (IsCutting place old) m c) (omega arith)
