-- Lists with one element replaced, and their rest.
use Rattle.std.proofs.Common.{◌≡◌, ◌≢◌, ℕ, zero, suc, ◌<◌, Bool, true, false, cond, List, [], ◌∷◌, length, drop, set, Some, slice_get, ◌++◌, inl, inr, ◌⊎◌, refl, ap, arith}
use Rattle.def_faults.specs.declared.notes.Mark.{Mark}
use Rattle.def_faults.specs.declared.notes.Mark.TheVariants.{Unknown, OnPath}
use Rattle.def_faults.specs.Marks.{is_unknown, unknowns}

module _ {A : Type 0} where
  pub drop_at : (xs : List A) (n : ℕ) (x : A) → slice_get xs n ≡ Some x → drop n xs ≡ x ∷ drop (suc n) xs
  drop_at [] n x e = absurd (cc)
  drop_at (y ∷ xs) zero x e = let same : y ≡ x = cc in ap (λ z. z ∷ xs) same
  drop_at (y ∷ xs) (suc n) x e = drop_at xs n x e

  pub set_same : (xs : List A) (n : ℕ) (a x : A) → slice_get xs n ≡ Some x → slice_get (set xs n a) n ≡ Some a
  set_same [] n a x e = absurd (cc)
  set_same (y ∷ xs) zero a x e = refl
  set_same (y ∷ xs) (suc n) a x e = set_same xs n a x e

  pub set_at : (xs : List A) (n : ℕ) (a : A) → n < length xs → slice_get (set xs n a) n ≡ Some a
  set_at [] n a h = absurd (omega (arith, h))
  set_at (y ∷ xs) zero a h = refl
  set_at (y ∷ xs) (suc n) a h = set_at xs n a (omega (arith, h))

  pub set_other : (xs : List A) (n m : ℕ) (a : A) → m ≢ n → slice_get (set xs n a) m ≡ slice_get xs m
  set_other [] n m a h = refl
  set_other (y ∷ xs) zero zero a h = absurd (h refl)
  set_other (y ∷ xs) zero (suc m) a h = refl
  set_other (y ∷ xs) (suc n) zero a h = refl
  set_other (y ∷ xs) (suc n) (suc m) a h = set_other xs n m a (λ e. h (ap suc e))

  pub pushed_at : (xs : List A) (x : A) (n : ℕ) (y : A) → slice_get (xs ++ x ∷ []) n ≡ Some y → (slice_get xs n ≡ Some y) ⊎ ((n ≡ length xs) × (x ≡ y))
  pushed_at [] x zero y e = inr (refl, cc)
  pushed_at [] x (suc n) y e = absurd (cc)
  pushed_at (z ∷ xs) x zero y e = inl e
  pushed_at (z ∷ xs) x (suc n) y e = elim (pushed_at xs x n y e) [ inl h ↦ inl h | inr h ↦ inr (ap suc h.0, h.1) ]

-- one unknown fewer
pub one_known : (ms : List Mark) (n : ℕ) → slice_get ms n ≡ Some Unknown → suc (unknowns (set ms n OnPath)) ≡ unknowns ms
one_known [] n e = absurd (cc)
one_known (m ∷ ms) zero e = let same : Unknown ≡ m = cc in ap (λ x. cond (is_unknown x) (suc (unknowns ms)) (unknowns ms)) same
one_known (m ∷ ms) (suc n) e = go (is_unknown m) (one_known ms n e)
  where
    go : (b : Bool) → suc (unknowns (set ms n OnPath)) ≡ unknowns ms → suc (cond b (suc (unknowns (set ms n OnPath))) (unknowns (set ms n OnPath))) ≡ cond b (suc (unknowns ms)) (unknowns ms)
    go true h = ap suc h
    go false h = h
