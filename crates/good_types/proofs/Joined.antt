-- The list of interfaces of a definition, by those of its parent and its own.
use Rattle.std.proofs.Common.{◌≡◌, ℕ, zero, suc, Bool, cond, ◌&&◌, nat_le, ◌⊎◌, inl, inr, List, [], ◌∷◌, ◌++◌, length, Option, None, Some, slice_get, refl, ap, ◌∙◌, sym, subst}
use Rattle.std.specs.List.{list_any, list_all, Contains}
use Rattle.std.specs.Option.{option_map, option_map_or}
use Rattle.std.proofs.lemmas.Bool.{cases_Bool}
use Rattle.std.proofs.lemmas.Option.{none-some, same_Some, option_and_then_some, cond_some}
use Rattle.std.proofs.lemmas.List.Elements.{Contains-append_left, Contains-push, Contains-push_cases}
use Rattle.type_tree.specs.declared.definition.Def.{Def}
use Rattle.type_tree.specs.declared.tree.Ty.{Ty}
use Rattle.type_tree.specs.contracts.tree.Ty as row-of-ty
use Rattle.type_tree.specs.Context.{arguments}
use Rattle.type_tree.specs.Kinds.{head, head_of}
use Rattle.type_tree.specs.Subst.{subst_all}
use Rattle.type_tree.specs.World.{Facts}
use Rattle.method_slots.specs.Slots.{same_tree}
use Rattle.interface_lists.specs.Lists.{own_list, joined, bounded, from_parent, inherited_list, with_own, list_at, interfaces, longest_list, is_small}
use Rattle.good_types.proofs.Elements.{first_in, later_in, none_in, in_cases, same_in}

-- ---- one list after another

abbrev with_one : List Ty → Ty → List Ty
with_one found t = cond (list_any (same_tree t) found) found (found ++ t ∷ [])

one_keeps : (found : List Ty) (t x : Ty) → Contains found x → Contains (with_one found t) x
one_keeps found t x c = elim (cases_Bool (list_any (same_tree t) found)) [
  | inl e ↦ subst (λ (b : Bool). Contains (cond b found (found ++ t ∷ [])) x) (sym e) c
  | inr e ↦ subst (λ (b : Bool). Contains (cond b found (found ++ t ∷ [])) x) (sym e) (Contains-append_left found (t ∷ []) x c)
]

one_has : (found : List Ty) (t : Ty) → Contains (with_one found t) t
one_has found t = elim (cases_Bool (list_any (same_tree t) found)) [
  | inl e ↦ subst (λ (b : Bool). Contains (cond b found (found ++ t ∷ [])) t) (sym e) (same_in row-of-ty.the_row.coded t found e)
  | inr e ↦ subst (λ (b : Bool). Contains (cond b found (found ++ t ∷ [])) t) (sym e) (Contains-push found t)
]

one_from : (found : List Ty) (t x : Ty) → Contains (with_one found t) x → Contains found x ⊎ (t ≡ x)
one_from found t x c = elim (cases_Bool (list_any (same_tree t) found)) [
  | inl e ↦ inl (subst (λ (b : Bool). Contains (cond b found (found ++ t ∷ [])) x) e c)
  | inr e ↦ Contains-push_cases found t x (subst (λ (b : Bool). Contains (cond b found (found ++ t ∷ [])) x) e c)
]

pub joined_left : (found ts : List Ty) (x : Ty) → Contains found x → Contains (joined found ts) x
joined_left found [] x c = c
joined_left found (t ∷ ts) x c = joined_left (with_one found t) ts x (one_keeps found t x c)

pub joined_right : (found ts : List Ty) (x : Ty) → Contains ts x → Contains (joined found ts) x
joined_right found [] x c = absurd (none_in x c)
joined_right found (t ∷ ts) x c = elim (in_cases t ts x c) [
  | inl e ↦ joined_left (with_one found t) ts x (subst (λ v. Contains (with_one found t) v) e (one_has found t))
  | inr later ↦ joined_right (with_one found t) ts x later
]

pub joined_from : (found ts : List Ty) (x : Ty) → Contains (joined found ts) x → Contains found x ⊎ Contains ts x
joined_from found [] x c = inl c
joined_from found (t ∷ ts) x c = elim (joined_from (with_one found t) ts x c) [
  | inl before ↦ elim (one_from found t x before) [ inl old ↦ inl old | inr e ↦ inr (subst (λ v. Contains (t ∷ ts) v) e (first_in t ts)) ]
  | inr later ↦ inr (later_in t ts x later)
]

-- ---- the parts of a list

-- what a list inherits: nothing, or the parent's list with the parent's arguments put in
abbrev pub IsInherited : Facts → ℕ → Def → List Ty → Type 0
IsInherited w k d inherited = ((head_of d.parent ≡ None) × (inherited ≡ [])) ⊎ ((p : Ty) × (m : ℕ) × (l : List Ty)
    × (d.parent ≡ Some p) × (head p ≡ Some m) × (interfaces k w m ≡ Some l) × (inherited ≡ subst_all (arguments p) [] l))

-- the trees of a list are those that it inherits and its own
pub record IsJoined (w : Facts) (k : ℕ) (d : Def) (list : List Ty) : Type 0 where
  pub inherited : List Ty
  pub own : List Ty
  pub above : IsInherited w k d inherited
  pub declared : own_list w d ≡ Some own
  pub is : list ≡ joined (joined [] inherited) own

module _ (w : Facts) where
  pub lists-none : (n : ℕ) → interfaces zero w n ≡ Some []
  unfolding interfaces
  lists-none n = refl

  pub lists-next : (k n : ℕ) → interfaces (suc k) w n ≡ list_at (interfaces k w) w (slice_get w.defs n)
  unfolding interfaces
  lists-next k n = refl

  by_head : (k : ℕ) (d : Def) (p : Ty) → d.parent ≡ Some p → (h : Option ℕ) → head p ≡ h → (inherited : List Ty)
      → option_map (from_parent (Some p)) (option_map_or (interfaces k w) h (Some [])) ≡ Some inherited → IsInherited w k d inherited
  by_head k d p e None is inherited h = inl (ap head_of e ∙ is, sym (same_Some [] inherited h))
  by_head k d p e (Some m) is inherited h = at (interfaces k w m) refl h
    where
      at : (o : Option (List Ty)) → interfaces k w m ≡ o → option_map (from_parent (Some p)) o ≡ Some inherited → IsInherited w k d inherited
      at None found h = absurd (none-some inherited h)
      at (Some l) found h = inr (p, m, l, e, is, found, sym (same_Some (subst_all (arguments p) [] l) inherited h))

  by_parent : (k : ℕ) (d : Def) (parent : Option Ty) → d.parent ≡ parent → (inherited : List Ty) → inherited_list (interfaces k w) parent ≡ Some inherited → IsInherited w k d inherited
  by_parent k d None e inherited h = inl (ap head_of e, sym (same_Some [] inherited h))
  by_parent k d (Some p) e inherited h = by_head k d p e (head p) refl inherited h

  pub split : (k n : ℕ) (d : Def) (list : List Ty) → slice_get w.defs n ≡ Some d → interfaces (suc k) w n ≡ Some list → IsJoined w k d list
  split k n d list here h =
      option_and_then_some {P = IsJoined w k d list} (with_own w d) (inherited_list (interfaces k w) d.parent) list (sym (lists-next k n ∙ ap (list_at (interfaces k w) w) here) ∙ h) (λ inherited e rest.
      option_and_then_some {P = IsJoined w k d list} (λ own. bounded (joined (joined [] inherited) own)) (own_list w d) list rest (λ own f last.
      let all = joined (joined [] inherited) own in
      record {
        inherited = inherited;
        own = own;
        above = by_parent k d d.parent refl inherited e;
        declared = f;
        is = sym (cond_some (nat_le (length all) longest_list && list_all is_small all) all list last).1;
      }))

-- ---- the trees of such a list

module _ (inherited own : List Ty) (x : Ty) where
  pub from_inherited : Contains inherited x → Contains (joined (joined [] inherited) own) x
  from_inherited c = joined_left (joined [] inherited) own x (joined_right [] inherited x c)

  pub from_own : Contains own x → Contains (joined (joined [] inherited) own) x
  from_own c = joined_right (joined [] inherited) own x c

  pub from_either : Contains (joined (joined [] inherited) own) x → Contains inherited x ⊎ Contains own x
  from_either c = elim (joined_from (joined [] inherited) own x c) [
    | inl left ↦ elim (joined_from [] inherited x left) [ inl none ↦ absurd (none_in x none) | inr there ↦ inl there ]
    | inr right ↦ inr right
  ]
