-- Lists of which the one is the other in handles.
use Rattle.std.proofs.Common.{◌≡◌, ℕ, zero, suc, ◌<◌, List, [], ◌∷◌, map, length, get_or, Option, None, Some, subst, arith}
use Rattle.clr_base.specs.declared.ids.Handle.{Handle}
use Rattle.type_record.specs.declared.loaded.SlotOf.{SlotOf}
use Rattle.type_record.specs.Naming.{slot_in, choice_in}

module _ {X Y Z : Type 0} (f : X → Z) (g : Y → Z) where
  none_from : (xs : List X) (i : ℕ) (d : X) → i < length xs → ((y : Y) → f (get_or xs i d) ≡ g y → ⊥) → (ys : List Y) → map f xs ≡ map g ys → ⊥
  none_from [] i d low none ys e = absurd (omega arith)
  none_from (x ∷ xs) i d low none [] e = absurd cc
  none_from (x ∷ xs) zero d low none (y ∷ ys) e =
      let one : f x ≡ g y = cc in
      none y one
  none_from (x ∷ xs) (suc i) d low none (y ∷ ys) e =
      let behind : map f xs ≡ map g ys = cc in
      none_from xs i d (omega arith) none ys behind

  -- where one item has none, the list has none
  pub none_in : (xs : List X) (i : ℕ) (x : X) → i < length xs → x ≡ get_or xs i x → ((y : Y) → f x ≡ g y → ⊥) → (ys : List Y) → map f xs ≡ map g ys → ⊥
  none_in xs i x low is none = none_from xs i x low (subst (λ z. (y : Y) → f z ≡ g y → ⊥) is none)

module _ {K : Type 0} (f : K → Option Handle) where
  pub none_chosen : (slot : SlotOf K) → ((s : SlotOf Handle) → slot_in f slot ≡ slot_in Some s → ⊥) → (c : Option (SlotOf Handle)) → choice_in f (Some slot) ≡ choice_in Some c → ⊥
  none_chosen slot none None e = absurd cc
  none_chosen slot none (Some s) e =
      let one : slot_in f slot ≡ slot_in Some s = cc in
      none s one
