-- Tests over all of some rows, types and entries.
use Rattle.std.proofs.Common.{◌≡◌, ℕ, zero, suc, ◌+◌, ◌-◌, ◌<◌, Bool, true, ◌&&◌, ◌||◌, List, [], ◌∷◌, ◌++◌, length, map, take, Some, slice_get, refl, ap, ap₂, ◌∙◌, sym, arith, length-append}
use Rattle.std.proofs.lemmas.Bool.{and_parts}
use Rattle.std.proofs.lemmas.List.{length-map, map-append}
use Rattle.std.proofs.lemmas.List.Folds.{list_all-append}
use Rattle.std.specs.List.{list_any, list_all}
use Rattle.type_tree.specs.declared.definition.Def.{Def}
use Rattle.type_tree.specs.declared.tree.Ty.{Ty}
use Rattle.type_tree.specs.World.{Facts}
use Rattle.type_pool.specs.declared.nodes.Id.{Id}
use Rattle.type_pool.specs.Trees.{at, at_all, ids_below}
use Rattle.method_slots.specs.Chains as chains
use Rattle.method_slots.specs.Chains.{longest_chain}
use Rattle.method_slots.specs.declared.opens.OpenMethod.{OpenMethod}
use Rattle.slot_chains.specs.declared.levels.Level.{Level}
use Rattle.slot_chains.specs.Levels.{IsLevel}
use Rattle.slot_chains.proofs.LevelLemmas.{chain_is}

pub any-map : {A B : Type 0} → (p : B → Bool) (f : A → B) (xs : List A) → list_any p (map f xs) ≡ list_any (λ x. p (f x)) xs
any-map p f [] = refl
any-map p f (x ∷ xs) = ap (λ r. p (f x) || r) (any-map p f xs)

pub got : {A : Type 0} → (xs : List A) (n : ℕ) → n < length xs → (x : A) × (slice_get xs n ≡ Some x)
got [] n h = absurd (omega (arith, h))
got (x ∷ xs) zero h = (x, refl)
got (x ∷ xs) (suc n) h = got xs n (omega (arith, h))

front : {A : Type 0} → (xs : List A) (x : A) → take (length xs) (xs ++ x ∷ []) ≡ xs
front [] x = refl
front (y ∷ xs) x = ap (λ l. y ∷ l) (front xs x)

take-map : {A B : Type 0} → (f : A → B) (k : ℕ) (xs : List A) → map f (take k xs) ≡ take k (map f xs)
take-map f zero xs = refl
take-map f (suc k) [] = refl
take-map f (suc k) (x ∷ xs) = ap (λ l. f x ∷ l) (take-map f k xs)

all-take : {A : Type 0} → (p : A → Bool) (k : ℕ) (xs : List A) → list_all p xs ≡ true → list_all p (take k xs) ≡ true
all-take p zero xs h = refl
all-take p (suc k) [] h = refl
all-take p (suc k) (x ∷ xs) h = let parts = and_parts _ _ h in ap₂ (λ a b. a && b) parts.0 (all-take p k xs parts.1)

module _ (w : Facts) (ts : List Ty) (os : List OpenMethod) (n : ℕ) (d : Def) (here : slice_get w.defs n ≡ Some d) (within : chains.IsWithin w n) (l : Level) (is : IsLevel w ts os n l) where
  abbrev parents : List Ty
  parents = chains.parents longest_chain w n

  long : length l.chain ≡ length parents + 1
  long = sym (length-map l.chain (at ts)) ∙ ap length (is.chain.are ∙ chain_is w n d here within) ∙ length-append parents _

  -- the definition itself stands on its chain
  pub chain-some : 0 < length l.chain
  chain-some = let e = long in omega (arith, e)

  -- all but the last are the parents
  pub chain-parents : at_all ts (take (length l.chain - 1) l.chain) ≡ parents
  chain-parents =
      let e : length l.chain - 1 ≡ length parents = let s = long in omega (arith, s) in
      take-map (at ts) (length l.chain - 1) l.chain ∙ ap₂ (λ k us. take k us) e (is.chain.are ∙ chain_is w n d here within) ∙ front parents _

  pub types-are : (ids : List Id) → at_all ts (take (length l.chain - 1) l.chain ++ ids) ≡ parents ++ at_all ts ids
  types-are ids = map-append (at ts) (take (length l.chain - 1) l.chain) ids ∙ ap (λ us. us ++ at_all ts ids) chain-parents

  pub types-below : (ids : List Id) → ids_below (length ts) ids ≡ true → ids_below (length ts) (take (length l.chain - 1) l.chain ++ ids) ≡ true
  types-below ids h = list_all-append _ (take (length l.chain - 1) l.chain) ids ∙ ap₂ (λ a b. a && b) (all-take _ (length l.chain - 1) l.chain is.chain.within) h
