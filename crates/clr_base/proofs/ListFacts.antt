-- What is found in a list, and what all its items pass.
use Rattle.std.proofs.Common.{◌≡◌, ℕ, zero, suc, ◌+◌, ◌<◌, ◌≤◌, Bool, true, false, cond, List, [], ◌∷◌, ◌++◌, map, length, Option, Some, if◌then◌else◌, refl, ap, ◌∙◌, subst, arith, slice_get, get_or}
use Rattle.std.specs.Prelude.{◌&&◌}
use Rattle.std.specs.List.{find, range_with_len, list_all}
use Rattle.std.proofs.lemmas.Bool.{and_parts}
use Rattle.std.proofs.lemmas.List.Folds.{list_all-append}

-- a choice, by what holds of each side where it is taken
pub choose : {X : Type 0} (P : X → Type 0) (b : Bool) (x y : X) → (b ≡ true → P x) → (b ≡ false → P y) → P (if b then x else y)
choose P true x y when unless = when refl
choose P false x y when unless = unless refl

-- the item that a search finds passes its test
one_passes : {X : Type 0} (p : X → Bool) (y x : X) (rest : Option X) (b : Bool) → p y ≡ b → (rest ≡ Some x → p x ≡ true)
    → cond b (Some y) rest ≡ Some x → p x ≡ true
one_passes p y x rest true is behind e = let same : y ≡ x = cc in subst (λ z. p z ≡ true) same is
one_passes p y x rest false is behind e = behind e

pub found_passes : {X : Type 0} (p : X → Bool) (xs : List X) (x : X) → find p xs ≡ Some x → p x ≡ true
found_passes p [] x e = absurd cc
found_passes p (y ∷ ys) x e = one_passes p y x (find p ys) (p y) refl (found_passes p ys x) e

-- and is one of the numbers searched
one_within : (a n x : ℕ) (rest : Option ℕ) (b : Bool) → (rest ≡ Some x → (a + 1 ≤ x) × (x < a + 1 + n)) → cond b (Some a) rest ≡ Some x
    → (a ≤ x) × (x < a + suc n)
one_within a n x rest true behind e = let same : a ≡ x = cc in (omega arith, omega arith)
one_within a n x rest false behind e = let h = behind e in (omega (arith, h.0), omega (arith, h.1))

pub found_within : (p : ℕ → Bool) (a n x : ℕ) → find p (range_with_len a n) ≡ Some x → (a ≤ x) × (x < a + n)
found_within p a zero x e = absurd cc
found_within p a (suc n) x e = one_within a n x (find p (range_with_len (a + 1) n)) (p a) (found_within p (a + 1) n x) e

-- all items pass, where each does
pub all_of_map : {X Y : Type 0} (p : Y → Bool) (give : X → Y) (xs : List X) → ((x : X) → p (give x) ≡ true) → list_all p (map give xs) ≡ true
all_of_map p give [] each = refl
all_of_map p give (x ∷ xs) each = ap (λ (b : Bool). b && list_all p (map give xs)) (each x) ∙ all_of_map p give xs each

-- the same over the numbers of a range
pub all_of_range : {Y : Type 0} (p : Y → Bool) (give : ℕ → Y) (a n : ℕ) → ((x : ℕ) → a ≤ x → x < a + n → p (give x) ≡ true)
    → list_all p (map give (range_with_len a n)) ≡ true
all_of_range p give a zero each = refl
all_of_range p give a (suc n) each =
    ap (λ (b : Bool). b && list_all p (map give (range_with_len (a + 1) n))) (each a (omega arith) (omega arith))
    ∙ all_of_range p give (a + 1) n (λ x first last. each x (omega arith) (omega arith))

pub all_of_both : {X : Type 0} (p : X → Bool) (xs ys : List X) → list_all p xs ≡ true → list_all p ys ≡ true → list_all p (xs ++ ys) ≡ true
all_of_both p xs ys one other = list_all-append p xs ys ∙ ap (λ (b : Bool). b && list_all p ys) one ∙ other

-- the item at a place, or another one, passes
pub all_at_or : {X : Type 0} (p : X → Bool) (xs : List X) (i : ℕ) (d : X) → list_all p xs ≡ true → p d ≡ true → p (get_or xs i d) ≡ true
all_at_or p [] i d all last = last
all_at_or p (x ∷ xs) zero d all last = (and_parts (p x) (list_all p xs) all).0
all_at_or p (x ∷ xs) (suc i) d all last = all_at_or p xs i d (and_parts (p x) (list_all p xs) all).1 last

-- a place at which there is an item is below the length
pub there_is : {X : Type 0} (xs : List X) (i : ℕ) (x : X) → slice_get xs i ≡ Some x → i < length xs
there_is [] i x e = absurd cc
there_is (y ∷ ys) zero x e = omega arith
there_is (y ∷ ys) (suc i) x e = let rest = there_is ys i x e in omega arith

-- both of two tests pass
pub both : (a b : Bool) → a ≡ true → b ≡ true → (a && b) ≡ true
both a b one other = ap (λ (x : Bool). x && b) one ∙ other
