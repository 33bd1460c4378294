-- The chain of parents of a type, with its arguments put in.
use Rattle.std.proofs.Common.{◌≡◌, ℕ, zero, suc, inl, inr, List, [], ◌∷◌, ◌++◌, length, map, Option, None, Some, slice_get, refl, ap, ap₂, ◌∙◌, sym, subst}
use Rattle.std.specs.List.{Contains}
use Rattle.std.specs.Option.{option_map_or}
use Rattle.std.proofs.lemmas.List.{map-append}
use Rattle.std.proofs.lemmas.List.Elements.{Contains-push_cases}
use Rattle.type_tree.specs.declared.definition.Def.{Def}
use Rattle.type_tree.specs.declared.tree.Ty.{Ty}
use Rattle.type_tree.specs.Context.{arguments}
use Rattle.type_tree.specs.Kinds.{head, head_of}
use Rattle.type_tree.specs.Subst.{subst_ty, subst_all}
use Rattle.type_tree.specs.World.{Facts}
use Rattle.method_slots.specs.Chains.{chain, chain_at, handed_on}
use Rattle.method_slots.specs.Slots.{in_own, variables}
use Rattle.good_types.specs.Exact.{inst}
use Rattle.good_types.proofs.Bare.{put_inst, all_twice, own_put}
use Rattle.good_types.proofs.Elements.{none_in, map_from}
use Rattle.good_types.proofs.Sound.{IsSound, parent_base, put_headed, put_in_two}

abbrev pub put_tree : List Ty → Ty → Ty
put_tree types t = subst_ty types [] t

-- what a parent hands on, by its head
abbrev pub handed : (ℕ → List Ty) → Ty → Option ℕ → List Ty
handed above p h = map (put_tree (arguments p)) (option_map_or above h [])

pub chain-none : (w : Facts) (n : ℕ) → chain zero w n ≡ []
unfolding chain
chain-none w n = refl

pub chain-next : (w : Facts) (k n : ℕ) → chain (suc k) w n ≡ chain_at (chain k w) n (slice_get w.defs n)
unfolding chain
chain-next w k n = refl

module _ (w : Facts) (P : Ty → Type 0) (sound : IsSound w P) where
  -- the type itself
  pub own_is : (n : ℕ) (d : Def) (args : List Ty) → P (inst n args) → slice_get w.defs n ≡ Some d → subst_ty args [] (in_own n d) ≡ inst n args
  own_is n d args h here = put_inst args n (variables (length d.formals)) ∙ ap (inst n) (own_put args (length d.formals) (sound.arity n d args h here))

  -- ---- each type of the chain

  -- of the parent's
  handed_kept : (k : ℕ) (each : (m : ℕ) (margs : List Ty) → P (inst m margs) → (c : Ty) → Contains (chain k w m) c → P (subst_ty margs [] c))
      → (args : List Ty) (p : Ty) → P (subst_ty args [] p) → (h : Option ℕ) → head p ≡ h → (c : Ty) → Contains (handed (chain k w) p h) c → P (subst_ty args [] c)
  handed_kept k each args p is None e c there = absurd (none_in c there)
  handed_kept k each args p is (Some m) e c there =
      let from = map_from (put_tree (arguments p)) (chain k w m) c there in
      let exact = each m (subst_all args [] (arguments p)) (subst P (put_headed args p m e) is) from.0 from.1 in
      subst P (sym (put_in_two w P sound args p from.0 exact) ∙ ap (subst_ty args []) from.2) exact

  parent_kept : (k : ℕ) (each : (m : ℕ) (margs : List Ty) → P (inst m margs) → (c : Ty) → Contains (chain k w m) c → P (subst_ty margs [] c))
      → (args : List Ty) (parent : Option Ty) → ((p : Ty) → parent ≡ Some p → P (subst_ty args [] p)) → (c : Ty) → Contains (handed_on put_tree (chain k w) parent) c → P (subst_ty args [] c)
  parent_kept k each args None is c there = absurd (none_in c there)
  parent_kept k each args (Some p) is c there = handed_kept k each args p (is p refl) (head p) refl c there

  at_kept : (k : ℕ) (each : (m : ℕ) (margs : List Ty) → P (inst m margs) → (c : Ty) → Contains (chain k w m) c → P (subst_ty margs [] c))
      → (n : ℕ) (args : List Ty) → P (inst n args) → (o : Option Def) → slice_get w.defs n ≡ o → (c : Ty) → Contains (chain_at (chain k w) n o) c → P (subst_ty args [] c)
  at_kept k each n args h None here c there = absurd (none_in c there)
  at_kept k each n args h (Some d) here c there = elim (Contains-push_cases (handed_on put_tree (chain k w) d.parent) (in_own n d) c there) [
    | inl above ↦ parent_kept k each args d.parent (λ p e. sound.based (inst n args) (subst_ty args [] p) h (parent_base w n d args here p e)) c above
    | inr own ↦ subst P (sym (own_is n d args h here) ∙ ap (subst_ty args []) own) h
  ]

  pub chain_kept : (k n : ℕ) (args : List Ty) → P (inst n args) → (c : Ty) → Contains (chain k w n) c → P (subst_ty args [] c)
  chain_kept zero n args h c there = absurd (none_in c (subst (λ (l : List Ty). Contains l c) (chain-none w n) there))
  chain_kept (suc k) n args h c there = at_kept k (chain_kept k) n args h (slice_get w.defs n) refl c (subst (λ (l : List Ty). Contains l c) (chain-next w k n) there)

  -- ---- the chain by that of the parent

  module _ (k n : ℕ) (d : Def) (args : List Ty) (h : P (inst n args)) (here : slice_get w.defs n ≡ Some d) where
    exact_is : (above : List Ty) → subst_all args [] (handed_on put_tree (chain k w) d.parent) ≡ above → subst_all args [] (chain (suc k) w n) ≡ above ++ inst n args ∷ []
    exact_is above e =
        ap (subst_all args []) (chain-next w k n ∙ ap (chain_at (chain k w) n) here)
        ∙ map-append (subst_ty args []) (handed_on put_tree (chain k w) d.parent) (in_own n d ∷ [])
        ∙ ap₂ (λ a b. a ++ b ∷ []) e (own_is n d args h here)

    pub alone : head_of d.parent ≡ None → subst_all args [] (chain (suc k) w n) ≡ inst n args ∷ []
    alone none = exact_is [] (ap (subst_all args []) (by d.parent none))
      where
        by : (o : Option Ty) → head_of o ≡ None → handed_on put_tree (chain k w) o ≡ []
        by None e = refl
        by (Some p) e = ap (handed (chain k w) p) e

    pub behind : (p : Ty) (m : ℕ) → d.parent ≡ Some p → head p ≡ Some m
        → subst_all args [] (chain (suc k) w n) ≡ subst_all (subst_all args [] (arguments p)) [] (chain k w m) ++ inst n args ∷ []
    behind p m e is = exact_is (subst_all (subst_all args [] (arguments p)) [] (chain k w m))
        (ap (λ o. subst_all args [] (handed_on put_tree (chain k w) o)) e ∙ ap (λ o. subst_all args [] (handed (chain k w) p o)) is
        ∙ all_twice args (arguments p) (chain k w m) (λ c there. sound.bare _ (chain_kept k m (subst_all args [] (arguments p)) parent c there)))
      where
        parent : P (inst m (subst_all args [] (arguments p)))
        parent = subst P (put_headed args p m is) (sound.based (inst n args) (subst_ty args [] p) h (parent_base w n d args here p e))
