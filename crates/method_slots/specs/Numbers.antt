-- The numbers of slots that methods take (ECMA-335 II.10.3).
use Rattle.std.specs.Prelude.{ℕ, suc, Bool, ◌&&◌, cond, List, [], ◌∷◌, ◌++◌, map, filter, Option, None, Some}
use Rattle.std.specs.Option.{is_none}

-- where the last stands of which p holds
abbrev pub last_place : {A : Type 0} → (A → Bool) → List A → Option ℕ
last_place p [] = None
last_place p (x ∷ xs) = elim (last_place p xs) [ Some n ↦ Some (suc n) | None ↦ cond (p x) (Some 0) None ]

-- Methods of a definition, each with what it is matched by, whether it is a virtual instance method, and whether it has newslot.
module _ {A M : Type 0} (same : A → A → Bool) (key : M → A) (takes newslot : M → Bool) (inherited : List A) where
  -- the slot that a method overrides: the last inherited one that matches; none with newslot
  abbrev pub overrides : M → Option ℕ
  overrides m = cond (newslot m) None (last_place (same (key m)) inherited)

  -- whether a method opens a slot
  abbrev pub opens : M → Bool
  opens m = takes m && is_none (overrides m)

  -- the numbers that methods take, in order, where `free` is the next free one; none for a method that takes no slot
  abbrev pub numbers_from : ℕ → List M → List (Option ℕ)
  numbers_from free [] = []
  numbers_from free (m ∷ ms) = cond (takes m) (elim (overrides m) [ Some n ↦ Some n ∷ numbers_from free ms | None ↦ Some free ∷ numbers_from (suc free) ms ]) (None ∷ numbers_from free ms)

  -- the slots, each by what it is matched by: the inherited ones, and those that the methods open
  abbrev pub opened : List M → List A
  opened ms = inherited ++ map key (filter opens ms)
