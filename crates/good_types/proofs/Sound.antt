-- Types whose parents and interfaces are among them too.
use Rattle.std.proofs.Common.{◌≡◌, ℕ, true, ◌⊎◌, inl, inr, List, [], ◌++◌, length, Option, None, Some, slice_get, refl, ap, ◌∙◌, sym, subst}
use Rattle.std.specs.List.{Contains}
use Rattle.std.specs.Option.{option_to_list}
use Rattle.std.proofs.lemmas.List.Elements.{Contains-append_left, Contains-append_right, Contains-append_cases}
use Rattle.type_tree.specs.declared.definition.Def.{Def}
use Rattle.type_tree.specs.declared.tree.Ty.{Ty}
use Rattle.type_tree.specs.declared.tree.Ty.TheVariants as ty
use Rattle.type_tree.specs.Context.{arguments}
use Rattle.type_tree.specs.Kinds.{head}
use Rattle.type_tree.specs.Subst.{subst_ty, subst_all}
use Rattle.type_tree.specs.World.{Facts}
use Rattle.type_relations.specs.Relations.{put_in, bases_of, bases_at, bases}
use Rattle.good_types.specs.Exact.{inst}
use Rattle.good_types.proofs.Bare.{is_bare, put_inst, put_twice, headed}
use Rattle.good_types.proofs.Elements.{first_in, none_in, in_cases, map_in, map_from}

-- Each type has no variable, and its parents and interfaces are among the types. An instantiation has as many arguments as its definition
-- has generic parameters.
pub record IsSound (w : Facts) (P : Ty → Type 0) : Type 0 where
  pub based : (t u : Ty) → P t → Contains (bases w t) u → P u
  pub bare : (t : Ty) → P t → is_bare t ≡ true
  pub arity : (n : ℕ) (d : Def) (args : List Ty) → P (inst n args) → slice_get w.defs n ≡ Some d → length args ≡ length d.formals

-- ---- parents and interfaces of an instantiation

module _ (w : Facts) (n : ℕ) (d : Def) (args : List Ty) (here : slice_get w.defs n ≡ Some d) where
  pub bases_are : bases w (inst n args) ≡ put_in args (option_to_list d.parent) ++ put_in args d.interfaces
  bases_are = ap (bases_at w) (ty.outs-Inst (record { 0 = n }) args) ∙ ap (bases_of args) here

  pub parent_base : (p : Ty) → d.parent ≡ Some p → Contains (bases w (inst n args)) (subst_ty args [] p)
  parent_base p e = subst (λ (l : List Ty). Contains l (subst_ty args [] p)) (sym bases_are)
      (Contains-append_left (put_in args (option_to_list d.parent)) (put_in args d.interfaces) (subst_ty args [] p)
      (subst (λ (o : Option Ty). Contains (put_in args (option_to_list o)) (subst_ty args [] p)) (sym e) (first_in (subst_ty args [] p) [])))

  pub interface_base : (i : Ty) → Contains d.interfaces i → Contains (bases w (inst n args)) (subst_ty args [] i)
  interface_base i c = subst (λ (l : List Ty). Contains l (subst_ty args [] i)) (sym bases_are)
      (Contains-append_right (put_in args (option_to_list d.parent)) (put_in args d.interfaces) (subst_ty args [] i) (map_in (subst_ty args []) d.interfaces i c))

  -- the exact parent, or an exact interface
  pub base_cases : (v : Ty) → Contains (bases w (inst n args)) v
      → ((p : Ty) × (d.parent ≡ Some p) × (subst_ty args [] p ≡ v)) ⊎ ((i : Ty) × Contains d.interfaces i × (subst_ty args [] i ≡ v))
  base_cases v c = elim (Contains-append_cases (put_in args (option_to_list d.parent)) (put_in args d.interfaces) v (subst (λ (l : List Ty). Contains l v) bases_are c)) [
    | inl above ↦ inl (of_parent d.parent refl above)
    | inr declared ↦ inr (map_from (subst_ty args []) d.interfaces v declared)
  ]
    where
      of_parent : (o : Option Ty) → d.parent ≡ o → Contains (put_in args (option_to_list o)) v → (p : Ty) × (d.parent ≡ Some p) × (subst_ty args [] p ≡ v)
      of_parent None e c = absurd (none_in v c)
      of_parent (Some p) e c = elim (in_cases (subst_ty args [] p) [] v c) [ inl is ↦ (p, e, is) | inr none ↦ absurd (none_in v none) ]

-- ---- arguments that are put in

-- a tree with a head
pub put_headed : (args : List Ty) (p : Ty) (m : ℕ) → head p ≡ Some m → subst_ty args [] p ≡ inst m (subst_all args [] (arguments p))
put_headed args p m e = ap (subst_ty args []) (headed p m e) ∙ put_inst args m (arguments p)

-- after those of another tree
pub put_in_two : (w : Facts) (P : Ty → Type 0) (sound : IsSound w P) (args : List Ty) (p c : Ty) → P (subst_ty (subst_all args [] (arguments p)) [] c)
    → subst_ty args [] (subst_ty (arguments p) [] c) ≡ subst_ty (subst_all args [] (arguments p)) [] c
put_in_two w P sound args p c h = put_twice args (arguments p) c (sound.bare (subst_ty (subst_all args [] (arguments p)) [] c) h)
