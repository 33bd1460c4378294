-- Where numbers stand last, as a map is told of one more.
use Rattle.std.proofs.Common.{◌≡◌, ℕ, suc, Bool, true, false, cond, nat_eq, List, [], ◌∷◌, ◌++◌, Option, None, Some, length, refl, ap, ◌∙◌, sym, eqb-true, inl, inr}
use Rattle.std.proofs.lemmas.Bool.{cases_Bool}
use Rattle.std.specs.declared.hash.FoldHasher.{FoldHasher}
use Rattle.std.specs.declared.hash.BuildHasherDefault.{BuildHasherDefault}
use Rattle.std.specs.HashMap.{get, HashMap, Updates}
use Rattle.method_slots.specs.Numbers.{last_place}
use Rattle.method_slots.specs.Virtuals.{AreLast}

abbrev next_place : Option ℕ → Bool → Option ℕ
next_place found holds = elim found [ Some n ↦ Some (suc n) | None ↦ cond holds (Some 0) None ]

module _ {A : Type 0} (p : A → Bool) where
  pub last_of_more : (xs : List A) (x : A) → last_place p (xs ++ x ∷ []) ≡ cond (p x) (Some (length xs)) (last_place p xs)
  last_of_more [] x = refl
  last_of_more (y ∷ xs) x = ap (λ f. next_place f (p y)) (last_of_more xs x) ∙ elim (p x) as (λ b. next_place (cond b (Some (length xs)) (last_place p xs)) (p y) ≡ cond b (Some (suc (length xs))) (next_place (last_place p xs) (p y))) [ true ↦ refl | false ↦ refl ]

pub eq-sym : (m n : ℕ) → nat_eq m n ≡ nat_eq n m
eq-sym m n = elim (cases_Bool (nat_eq m n)) [
  | inl e ↦ let same : m ≡ n = eqb-true m n e in ap (λ k. nat_eq m k) (sym same) ∙ ap (λ k. nat_eq k m) same
  | inr e ↦ elim (cases_Bool (nat_eq n m)) [
    | inl f ↦ let same : n ≡ m = eqb-true n m f in ap (λ k. nat_eq m k) same ∙ ap (λ k. nat_eq k m) (sym same)
    | inr f ↦ e ∙ sym f
  ]
]

pub last_noted : (places new : HashMap ℕ ℕ (BuildHasherDefault FoldHasher)) (keys : List ℕ) (key : ℕ) → AreLast places keys
    → Updates nat_eq places new key (Some (length keys)) → AreLast new (keys ++ key ∷ [])
last_noted places new keys key are updates k =
    updates.0 k ∙ ap (λ b. cond b (Some (length keys)) (get nat_eq places k)) (eq-sym key k) ∙ ap (λ o. cond (nat_eq k key) (Some (length keys)) o) (are k)
    ∙ sym (last_of_more (nat_eq k) keys key)
