-- What holds of each walk through declared interfaces.
use Rattle.std.proofs.Common.{◌≡◌, ℕ, zero, suc, true, false, cond, inl, inr, List, [], ◌∷◌, ◌++◌, Option, None, Some, ap, ◌∙◌, sym, subst}
use Rattle.std.proofs.lemmas.Bool.{cases_Bool}
use Rattle.std.proofs.lemmas.Option.{none-some, same_Some, option_and_then_some}
use Rattle.type_tree.specs.declared.tree.Ty.{Ty}
use Rattle.type_tree.specs.World.{Facts}
use Rattle.interface_lists.specs.Lists.{declared, longest_list, is_new, may_join, in_turn, visit_at, visit, follow}

abbrev Found : Type 0
Found = Option (List Ty)

-- What holds of trees that are followed, the list before and the list after, where it holds of none, of a tree that is passed over, of
-- one that is new, by what it declares, and of one tree and then of the others.
pub record Holds (w : Facts) (R : List Ty → List Ty → List Ty → Type 0) : Type 0 where
  pub none : (f : List Ty) → R [] f f
  pub old : (t : Ty) (f : List Ty) → is_new w t f ≡ false → R (t ∷ []) f f
  pub new : (t : Ty) (f out : List Ty) → is_new w t f ≡ true → R (declared w t) (f ++ t ∷ []) out → R (t ∷ []) f out
  pub join : (t : Ty) (ts f g out : List Ty) → R (t ∷ []) f g → R ts g out → R (t ∷ ts) f out

module _ (w : Facts) (R : List Ty → List Ty → List Ty → Type 0) (holds : Holds w R) where
  at_visit : (inside : List Ty → List Ty → Found) → ((ts f out : List Ty) → inside ts f ≡ Some out → R ts f out) → (t : Ty) (f out : List Ty) → visit_at w inside t f ≡ Some out → R (t ∷ []) f out
  at_visit inside each t f out h = elim (cases_Bool (is_new w t f)) [
    | inr e ↦
        let same : f ≡ out = same_Some f out (sym (ap (λ b. cond b (cond (may_join t f) (inside (declared w t) (f ++ t ∷ [])) None) (Some f)) e) ∙ h) in
        subst (R (t ∷ []) f) same (holds.old t f e)
    | inl e ↦ entered e (sym (ap (λ b. cond b (cond (may_join t f) (inside (declared w t) (f ++ t ∷ [])) None) (Some f)) e) ∙ h)
  ]
    where
      entered : is_new w t f ≡ true → cond (may_join t f) (inside (declared w t) (f ++ t ∷ [])) None ≡ Some out → R (t ∷ []) f out
      entered e k = elim (cases_Bool (may_join t f)) [
        | inl j ↦ holds.new t f out e (each (declared w t) (f ++ t ∷ []) out (sym (ap (λ b. cond b (inside (declared w t) (f ++ t ∷ [])) None) j) ∙ k))
        | inr j ↦ absurd (none-some out (sym (ap (λ b. cond b (inside (declared w t) (f ++ t ∷ [])) None) j) ∙ k))
      ]

  all_turns : (v : Ty → List Ty → Found) → ((t : Ty) (f out : List Ty) → v t f ≡ Some out → R (t ∷ []) f out) → (ts f out : List Ty) → in_turn v ts f ≡ Some out → R ts f out
  all_turns v each [] f out h = subst (R [] f) (same_Some f out h) (holds.none f)
  all_turns v each (t ∷ ts) f out h = option_and_then_some {P = R (t ∷ ts) f out} (in_turn v ts) (v t f) out h (λ g e k. holds.join t ts f g out (each t f g e) (all_turns v each ts g out k))

  all_visits : (k : ℕ) (t : Ty) (f out : List Ty) → visit k w t f ≡ Some out → R (t ∷ []) f out
  unfolding visit
  all_visits zero t f out h = at_visit (λ ts more. None) (λ ts g more e. absurd (none-some more e)) t f out h
  all_visits (suc k) t f out h = at_visit (in_turn (visit k w)) (all_turns (visit k w) (all_visits k)) t f out h

  pub followed : (ts f out : List Ty) → follow w ts f ≡ Some out → R ts f out
  followed ts f out h = all_turns (visit longest_list w) (all_visits longest_list) ts f out h
