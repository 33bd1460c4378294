-- Sums over lists that change at one place.
use Rattle.std.proofs.Common.{◌≡◌, ℕ, zero, suc, ◌+◌, ◌<◌, ◌≤◌, ◌≢◌, ◌⊎◌, List, [], ◌∷◌, ◌++◌, map, length, set, sym, refl, ap, inl, inr, ⊎_elim, arith, cond, eqb, eq-eqb, ne_eqb}
use mathlib.Core.Logic.{dite}
use native.Mathlib.Decide.{ℕ_discrete}
use mathlib.Core.Option.{some, some-injective, some-ne-none}
use lib.ListN.{get_elem?}
use Rattle.word_board.specs.Weights.{total, below}
use Rattle.word_board.specs.Marks.{Has}

module _ {A : Type 0} where
  pub at_set : (l : List A) (i j : ℕ) (a b : A) → get_elem? (set l i a) j ≡ some b → ((j ≡ i) × (a ≡ b)) ⊎ ((j ≢ i) × (get_elem? l j ≡ some b))
  at_set [] i j a b e = absurd (some-ne-none b (sym e))
  at_set (x ∷ xs) zero zero a b e = inl (refl, some-injective a b e)
  at_set (x ∷ xs) zero (suc j) a b e = inr ((λ h. omega arith), e)
  at_set (x ∷ xs) (suc i) zero a b e = inr ((λ h. omega arith), e)
  at_set (x ∷ xs) (suc i) (suc j) a b e = ⊎_elim (λ t. inl (ap suc t.0, t.1)) (λ t. let n = t.0 in inr ((λ h. n (omega arith)), t.1)) (at_set xs i j a b e)

  pub set_here : (l : List A) (i : ℕ) (a : A) → i < length l → get_elem? (set l i a) i ≡ some a
  set_here [] i a h = absurd (omega arith)
  set_here (x ∷ xs) zero a h = refl
  set_here (x ∷ xs) (suc i) a h = set_here xs i a (omega arith)

  pub set_else : (l : List A) (i j : ℕ) (a : A) → j ≢ i → get_elem? (set l i a) j ≡ get_elem? l j
  set_else [] i j a n = refl
  set_else (x ∷ xs) zero zero a n = absurd (n refl)
  set_else (x ∷ xs) zero (suc j) a n = refl
  set_else (x ∷ xs) (suc i) zero a n = refl
  set_else (x ∷ xs) (suc i) (suc j) a n = set_else xs i j a (λ e. n (ap suc e))

  pub at_snoc : (l : List A) (a b : A) (j : ℕ) → get_elem? (l ++ a ∷ []) j ≡ some b → (get_elem? l j ≡ some b) ⊎ (a ≡ b)
  at_snoc [] a b zero e = inr (some-injective a b e)
  at_snoc [] a b (suc j) e = absurd (some-ne-none b (sym e))
  at_snoc (x ∷ xs) a b zero e = inl e
  at_snoc (x ∷ xs) a b (suc j) e = at_snoc xs a b j e

  pub some_there : (l : List A) (i : ℕ) → i < length l → (a : A) × (get_elem? (map some l) i ≡ some (some a))
  some_there [] i h = absurd (omega arith)
  some_there (x ∷ xs) zero h = (x, refl)
  some_there (x ∷ xs) (suc i) h = some_there xs i (omega arith)

  module _ (g : A → ℕ) where
    pub total-append : (l m : List A) → total g (l ++ m) ≡ total g l + total g m
    total-append [] m = omega arith
    total-append (x ∷ xs) m = omega (arith, total-append xs m)

    pub total-set : (l : List A) (j : ℕ) (v w : A) → get_elem? l j ≡ some v → total g (set l j w) + g v ≡ total g l + g w
    total-set [] j v w e = absurd (some-ne-none v (sym e))
    total-set (x ∷ xs) zero v w e = omega (arith, ap g (some-injective x v e))
    total-set (x ∷ xs) (suc j) v w e = omega (arith, total-set xs j v w e)

    pub term_le : (l : List A) (j : ℕ) (v : A) → get_elem? l j ≡ some v → g v ≤ total g l
    term_le [] j v e = absurd (some-ne-none v (sym e))
    term_le (x ∷ xs) zero v e = omega (arith, ap g (some-injective x v e))
    term_le (x ∷ xs) (suc j) v e = omega (arith, term_le xs j v e)

    pub terms_le : (l : List A) (j k : ℕ) (v u : A) → k ≢ j → get_elem? l j ≡ some v → get_elem? l k ≡ some u → g v + g u ≤ total g l
    terms_le [] j k v u n e d = absurd (some-ne-none v (sym e))
    terms_le (x ∷ xs) zero zero v u n e d = absurd (n refl)
    terms_le (x ∷ xs) zero (suc k) v u n e d = omega (arith, ap g (some-injective x v e), term_le xs k u d)
    terms_le (x ∷ xs) (suc j) zero v u n e d = omega (arith, ap g (some-injective x u d), term_le xs j v e)
    terms_le (x ∷ xs) (suc j) (suc k) v u n e d = omega (arith, terms_le xs j k v u (λ h. n (ap suc h)) e d)

  pub total-one : (l : List A) → total (λ _. 1) l ≡ length l
  total-one [] = refl
  total-one (x ∷ xs) = omega (arith, total-one xs)

pub below-one : (n : ℕ) → below (λ _. 1) n ≡ n
below-one zero = refl
below-one (suc n) = omega (arith, below-one n)

pub pushed : (f : ℕ → ℕ) (old new : List ℕ) (x : ℕ) → new ≡ old ++ x ∷ [] → total f new ≡ total f old + f x
pushed f old new x e = omega (arith, ap (total f) e, total-append f old (x ∷ []))

pub popped : (f : ℕ → ℕ) (old new : List ℕ) (x : ℕ) → old ≡ x ∷ new → total f old ≡ f x + total f new
popped f old new x e = ap (total f) e

pub below_more : (f : ℕ → ℕ) (n : ℕ) → below f (n + 1) ≡ below f n + f n
below_more f n = let e : n + 1 ≡ suc n = omega arith in ap (below f) e

abbrev pub only : ℕ → ℕ → ℕ
only k x = cond (eqb x k) 1 0

pub only-same : (k : ℕ) → only k k ≡ 1
only-same k = ap (λ b. cond b 1 0) (eq-eqb k k refl)

below-only : (k n : ℕ) → (below (only k) n ≤ 1) × (n ≤ k → below (only k) n ≡ 0)
below-only k zero = (omega arith, λ _. refl)
below-only k (suc n) =
    let before = below-only k n in
    dite (ℕ_discrete n k)
    (λ e. let none-yet = before.1 (omega arith) in let one : only k n ≡ 1 = ap (λ b. cond b 1 0) (eq-eqb n k e) in (omega arith, λ h. absurd (omega arith)))
    (λ ne. let zero-here : only k n ≡ 0 = ap (λ b. cond b 1 0) (ne_eqb n k ne) in (omega (arith, before.0), λ h. omega (arith, before.1 (omega arith))))

pub below-once : (k n : ℕ) → below (only k) n ≤ 1
below-once k n = (below-only k n).0

below-in : (k n : ℕ) → k < n → below (only k) n ≡ 1
below-in k zero h = absurd (omega arith)
below-in k (suc n) h = let b = (below-only k n).1 in dite (ℕ_discrete n k)
    (λ e. let one : only k n ≡ 1 = ap (λ b. cond b 1 0) (eq-eqb n k e) in omega (arith, b (omega arith)))
    (λ ne. let zero-here : only k n ≡ 0 = ap (λ b. cond b 1 0) (ne_eqb n k ne) in omega (arith, below-in k n (omega arith)))

-- the numbers below n are those with a weight
pub below-has : (k n : ℕ) → 1 ≤ below (only k) n → k < n
below-has k n h = let b = (below-only k n).1 in dite (native.Mathlib.Decide.dec_lt k n) (λ y. y) (λ no. let z = b (omega arith) in absurd (omega arith))

pub below-there : (k n : ℕ) → k < n → 1 ≤ below (only k) n
below-there k n h = omega (arith, below-in k n h)

module _ {A : Type 0} (g : A → ℕ) where
  pub total-same : (l : List A) (j : ℕ) (v w : A) → get_elem? l j ≡ some v → g w ≡ g v → total g (set l j w) ≡ total g l
  total-same l j v w at e = omega (arith, total-set g l j v w at)

  pub has_total : (l : List A) (x : A) → Has l x → g x ≤ total g l
  has_total [] x h = absurd h
  has_total (y ∷ l) x h = ⊎_elim (λ e. omega (arith, ap g e)) (λ t. omega (arith, has_total l x t)) h

  -- where the sum is not 0, some item has a weight
  pub total-some : (l : List A) → 0 < total g l → (j : ℕ) × (v : A) × (get_elem? l j ≡ some v) × (0 < g v)
  total-some [] h = absurd (omega arith)
  total-some (y ∷ l) h = dite (ℕ_discrete (g y) 0)
      (λ z. let t = total-some l (omega arith) in (suc t.0, t.1, t.2, t.3))
      (λ ne. (0, y, refl, omega arith))

  pub has-some : (l : List A) → 0 < total g l → (x : A) × Has l x × (0 < g x)
  has-some [] h = absurd (omega arith)
  has-some (y ∷ l) h = dite (ℕ_discrete (g y) 0)
      (λ z. let t = has-some l (omega arith) in (t.0, inr t.1, t.2))
      (λ ne. (y, inl refl, omega arith))

pub total-none : {A : Type 0} (g : A → ℕ) (l : List A) → ((j : ℕ) (u : A) → get_elem? l j ≡ some u → g u ≡ 0) → total g l ≡ 0
total-none g [] h = refl
total-none g (x ∷ l) h = omega (arith, h 0 x refl, total-none g l (λ j u e. h (suc j) u e))

-- where all others have no weight
pub total-alone : {A : Type 0} (g : A → ℕ) (l : List A) (id : ℕ) (v : A) → get_elem? l id ≡ some v → ((j : ℕ) (u : A) → get_elem? l j ≡ some u → j ≢ id → g u ≡ 0) → total g l ≡ g v
total-alone g [] id v at h = absurd (some-ne-none v (sym at))
total-alone g (x ∷ l) zero v at h = omega (arith, ap g (some-injective x v at), total-none g l (λ j u e. h (suc j) u e (λ z. omega arith)))
total-alone g (x ∷ l) (suc id) v at h = omega (arith, h 0 x refl (λ z. omega arith), total-alone g l id v at (λ j u e n. h (suc j) u e (λ z. n (omega arith))))
