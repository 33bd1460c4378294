-- Declarations that are followed: how deep they may nest doesn't matter where the bounds of the list end them first.
use Rattle.std.proofs.Common.{◌≡◌, ℕ, zero, suc, ◌≤◌, ◌+◌, true, false, cond, List, [], ◌∷◌, ◌++◌, Option, None, Some, length, refl, ap, ◌∙◌, sym, subst, arith, length-append, nat_lt, inl, inr}
use Rattle.std.proofs.lemmas.Bool.{cases_Bool, and_parts, ltb-true}
use Rattle.std.specs.Option.{option_and_then}
use Rattle.type_tree.specs.declared.tree.Ty.{Ty}
use Rattle.type_tree.specs.World.{Facts}
use Rattle.interface_lists.specs.Lists.{declared, longest_list, is_new, is_small, may_join, in_turn, visit_at, visit, follow}

abbrev Found : Type 0
Found = Option (List Ty)

-- a list with at least so many
abbrev Grown : Found → ℕ → Type 0
Grown None n = Unit {0}
Grown (Some g) n = n ≤ length g

weaken : (m n : ℕ) (o : Found) → m ≤ n → Grown o n → Grown o m
weaken m n None le g = tt
weaken m n (Some l) le g = omega (arith, le, g)

then_grown : (p : List Ty → Found) (n : ℕ) → ((g : List Ty) → Grown (p g) (length g)) → (o : Found) → Grown o n → Grown (option_and_then p o) n
then_grown p n h None g = tt
then_grown p n h (Some l) g = weaken n (length l) (p l) g (h l)

then_same : (p q : List Ty → Found) (n : ℕ) → ((g : List Ty) → n ≤ length g → p g ≡ q g) → (o : Found) → Grown o n → option_and_then p o ≡ option_and_then q o
then_same p q n h None g = refl
then_same p q n h (Some l) g = h l g

turn_grows : (v : Ty → List Ty → Found) → ((t : Ty) (f : List Ty) → Grown (v t f) (length f)) → (ts f : List Ty) → Grown (in_turn v ts f) (length f)
turn_grows v h [] f = omega arith
turn_grows v h (t ∷ ts) f = then_grown (in_turn v ts) (length f) (λ g. turn_grows v h ts g) (v t f) (h t f)

then_then : (p q r : List Ty → Found) → ((g : List Ty) → p g ≡ option_and_then r (q g)) → (o : Found) → option_and_then p o ≡ option_and_then r (option_and_then q o)
then_then p q r h None = refl
then_then p q r h (Some g) = h g

in_turn-append : (v : Ty → List Ty → Found) (ts us f : List Ty) → in_turn v (ts ++ us) f ≡ option_and_then (in_turn v us) (in_turn v ts f)
in_turn-append v [] us f = refl
in_turn-append v (t ∷ ts) us f = then_then (in_turn v (ts ++ us)) (in_turn v ts) (in_turn v us) (λ g. in_turn-append v ts us g) (v t f)

module _ (w : Facts) where
  at_old : (inside : List Ty → List Ty → Found) (t : Ty) (f : List Ty) → is_new w t f ≡ false → visit_at w inside t f ≡ Some f
  at_old inside t f e = ap (λ b. cond b (cond (may_join t f) (inside (declared w t) (f ++ t ∷ [])) None) (Some f)) e

  at_new : (inside : List Ty → List Ty → Found) (t : Ty) (f : List Ty) → is_new w t f ≡ true → visit_at w inside t f ≡ cond (may_join t f) (inside (declared w t) (f ++ t ∷ [])) None
  at_new inside t f e = ap (λ b. cond b (cond (may_join t f) (inside (declared w t) (f ++ t ∷ [])) None) (Some f)) e

  at_full : (inside : List Ty → List Ty → Found) (t : Ty) (f : List Ty) → is_new w t f ≡ true → may_join t f ≡ false → visit_at w inside t f ≡ None
  at_full inside t f e j = at_new inside t f e ∙ ap (λ b. cond b (inside (declared w t) (f ++ t ∷ [])) None) j

  at_room : (inside : List Ty → List Ty → Found) (t : Ty) (f : List Ty) → is_new w t f ≡ true → may_join t f ≡ true → visit_at w inside t f ≡ inside (declared w t) (f ++ t ∷ [])
  at_room inside t f e j = at_new inside t f e ∙ ap (λ b. cond b (inside (declared w t) (f ++ t ∷ [])) None) j

  passes : (k : ℕ) (t : Ty) (f : List Ty) → is_new w t f ≡ false → visit k w t f ≡ Some f
  unfolding visit
  passes zero t f e = at_old (λ ts more. None) t f e
  passes (suc k) t f e = at_old (in_turn (visit k w)) t f e

  stops : (k : ℕ) (t : Ty) (f : List Ty) → is_new w t f ≡ true → may_join t f ≡ false → visit k w t f ≡ None
  unfolding visit
  stops zero t f e j = at_full (λ ts more. None) t f e j
  stops (suc k) t f e j = at_full (in_turn (visit k w)) t f e j

  enters : (k : ℕ) (t : Ty) (f : List Ty) → is_new w t f ≡ true → may_join t f ≡ true → visit (suc k) w t f ≡ in_turn (visit k w) (declared w t) (f ++ t ∷ [])
  unfolding visit
  enters k t f e j = at_room (in_turn (visit k w)) t f e j

  never : (t : Ty) (f : List Ty) → is_new w t f ≡ true → may_join t f ≡ true → visit zero w t f ≡ None
  unfolding visit
  never t f e j = at_room (λ ts more. None) t f e j

  one_longer : (t : Ty) (f : List Ty) → length (f ++ t ∷ []) ≡ suc (length f)
  one_longer t f = simp length-append (omega arith)

  -- a list gets no shorter
  inside_grows : (k : ℕ) (t : Ty) (f : List Ty) → is_new w t f ≡ true → may_join t f ≡ true → ((u : Ty) (g : List Ty) → Grown (visit k w u g) (length g)) → Grown (visit (suc k) w t f) (length f)
  inside_grows k t f e j h =
      let g = f ++ t ∷ [] in
      let all = turn_grows (visit k w) h (declared w t) g in
      let longer = one_longer t f in
      subst (λ o. Grown o (length f)) (sym (enters k t f e j)) (weaken (length f) (length g) (in_turn (visit k w) (declared w t) g) (omega (arith, longer)) all)

  visit_grows : (k : ℕ) (t : Ty) (f : List Ty) → Grown (visit k w t f) (length f)
  visit_grows zero t f = elim (cases_Bool (is_new w t f)) [
    | inr e ↦ subst (λ o. Grown o (length f)) (sym (passes 0 t f e)) (omega arith)
    | inl e ↦ elim (cases_Bool (may_join t f)) [
      | inr j ↦ subst (λ o. Grown o (length f)) (sym (stops 0 t f e j)) tt
      | inl j ↦ subst (λ o. Grown o (length f)) (sym (never t f e j)) tt
    ]
  ]
  visit_grows (suc k) t f = elim (cases_Bool (is_new w t f)) [
    | inr e ↦ subst (λ o. Grown o (length f)) (sym (passes (suc k) t f e)) (omega arith)
    | inl e ↦ elim (cases_Bool (may_join t f)) [
      | inr j ↦ subst (λ o. Grown o (length f)) (sym (stops (suc k) t f e j)) tt
      | inl j ↦ inside_grows k t f e j (visit_grows k)
    ]
  ]

  -- where a list can't grow so much longer, one level more is none more
  turns : (k : ℕ) → ((t : Ty) (f : List Ty) → longest_list ≤ k + length f → visit (suc k) w t f ≡ visit k w t f)
      → (ts f : List Ty) → longest_list ≤ k + length f → in_turn (visit (suc k) w) ts f ≡ in_turn (visit k w) ts f
  turns k h [] f le = refl
  turns k h (t ∷ ts) f le = ap (option_and_then (in_turn (visit (suc k) w) ts)) (h t f le)
      ∙ then_same (in_turn (visit (suc k) w) ts) (in_turn (visit k w) ts) (length f) (λ g l. turns k h ts g (omega (arith, le, l))) (visit k w t f) (visit_grows k t f)

  no_room : (t : Ty) (f : List Ty) → longest_list ≤ 0 + length f → may_join t f ≡ true → ⊥
  no_room t f le j = let few = ltb-true (length f) longest_list (and_parts (nat_lt (length f) longest_list) (is_small t) j).0 in omega (arith, le, few)

  deeper : (k : ℕ) (t : Ty) (f : List Ty) → longest_list ≤ k + length f → visit (suc k) w t f ≡ visit k w t f
  deeper zero t f le = elim (cases_Bool (is_new w t f)) [
    | inr e ↦ passes 1 t f e ∙ sym (passes 0 t f e)
    | inl e ↦ elim (cases_Bool (may_join t f)) [
      | inr j ↦ stops 1 t f e j ∙ sym (stops 0 t f e j)
      | inl j ↦ absurd (no_room t f le j)
    ]
  ]
  deeper (suc k) t f le = elim (cases_Bool (is_new w t f)) [
    | inr e ↦ passes (suc (suc k)) t f e ∙ sym (passes (suc k) t f e)
    | inl e ↦ elim (cases_Bool (may_join t f)) [
      | inr j ↦ stops (suc (suc k)) t f e j ∙ sym (stops (suc k) t f e j)
      | inl j ↦ enters (suc k) t f e j ∙ turns k (deeper k) (declared w t) (f ++ t ∷ []) (let longer = one_longer t f in omega (arith, le, longer)) ∙ sym (enters k t f e j)
    ]
  ]

  enter : (k : ℕ) (t : Ty) (rest f : List Ty) → is_new w t f ≡ true → may_join t f ≡ true → longest_list ≤ suc k + length f
      → in_turn (visit (suc k) w) (t ∷ rest) f ≡ in_turn (visit (suc k) w) (declared w t ++ rest) (f ++ t ∷ [])
  enter k t rest f e j le =
      let g = f ++ t ∷ [] in
      let longer = one_longer t f in
      let same = turns k (deeper k) (declared w t) g (omega (arith, le, longer)) in
      ap (option_and_then (in_turn (visit (suc k) w) rest)) (enters k t f e j ∙ sym same) ∙ sym (in_turn-append (visit (suc k) w) (declared w t) rest g)

  -- ---- the tree at the front of those that are followed

  pub enter_first : (t : Ty) (rest f : List Ty) → is_new w t f ≡ true → may_join t f ≡ true → follow w (t ∷ rest) f ≡ follow w (declared w t ++ rest) (f ++ t ∷ [])
  enter_first t rest f e j = enter 4095 t rest f e j (omega arith)

  pub skip_first : (t : Ty) (rest f : List Ty) → is_new w t f ≡ false → follow w (t ∷ rest) f ≡ follow w rest f
  skip_first t rest f e = ap (option_and_then (follow w rest)) (passes longest_list t f e)

  pub stop_first : (t : Ty) (rest f : List Ty) → is_new w t f ≡ true → may_join t f ≡ false → follow w (t ∷ rest) f ≡ None
  stop_first t rest f e j = ap (option_and_then (follow w rest)) (stops longest_list t f e j)
