-- The interfaces of a type, with its arguments put in.
use Rattle.std.proofs.Common.{◌≡◌, ℕ, zero, suc, Bool, true, false, not, inl, inr, List, [], ◌∷◌, Option, None, Some, slice_get, refl, ap, ◌∙◌, sym, subst, true≢false}
use Rattle.std.specs.List.{list_any, Contains}
use Rattle.std.specs.Option.{option_map_or, option_and_then}
use Rattle.std.proofs.lemmas.Bool.{and_parts, and_cases}
use Rattle.std.proofs.lemmas.Option.{none-some, same_Some}
use Rattle.std.proofs.lemmas.List.Elements.{Contains-append_left, Contains-push_cases}
use Rattle.type_tree.specs.declared.definition.Def.{Def}
use Rattle.type_tree.specs.declared.tree.Ty.{Ty}
use Rattle.type_tree.specs.declared.tree.Ty.TheVariants as ty
use Rattle.type_tree.specs.contracts.tree.Ty as row-of-ty
use Rattle.type_tree.specs.Context.{arguments}
use Rattle.type_tree.specs.Kinds.{head, head_at}
use Rattle.type_tree.specs.Subst.{subst_ty, subst_all}
use Rattle.type_tree.specs.World.{Facts}
use Rattle.method_slots.specs.Slots.{is_interface, same_tree}
use Rattle.interface_lists.specs.Lists.{def_of, names_interface, declared, is_new, interfaces, list_at}
use Rattle.good_types.specs.Exact.{inst}
use Rattle.good_types.proofs.Elements.{first_in, later_in, none_in, map_from, same_in}
use Rattle.good_types.proofs.Follows.{Holds, followed}
use Rattle.good_types.proofs.Joined.{IsInherited, lists-none, lists-next, split, from_either}
use Rattle.good_types.proofs.Sound.{IsSound, parent_base, interface_base, put_headed, put_in_two}

-- ---- trees of interfaces

-- a definition at the head of a tree
pub record HasDef (w : Facts) (t : Ty) : Type 0 where
  pub number : ℕ
  pub def : Def
  pub head : head t ≡ Some number
  pub here : slice_get w.defs number ≡ Some def

module _ (w : Facts) where
  def-at : (t : Ty) (h : Option ℕ) → head t ≡ h → (d : Def) → option_and_then (λ p. slice_get w.defs p) h ≡ Some d → HasDef w t
  def-at t None e d is = absurd (none-some d is)
  def-at t (Some n) e d is = record { number = n; def = d; head = e; here = is }

  pub def_is : (t : Ty) (d : Def) → def_of w t ≡ Some d → HasDef w t
  def_is t d e = def-at t (head t) refl d e

  pub def_there : (t : Ty) (h : HasDef w t) → def_of w t ≡ Some h.def
  def_there t h = ap (option_and_then (λ p. slice_get w.defs p)) h.head ∙ h.here

  named-by : (t : Ty) (o : Option Def) → def_of w t ≡ o → option_map_or is_interface o false ≡ true → (d : Def) × (def_of w t ≡ Some d) × (is_interface d ≡ true)
  named-by t None e h = absurd (true≢false (sym h))
  named-by t (Some d) e h = (d, e, h)

  -- the interface that a tree names
  pub named : (t : Ty) → names_interface w t ≡ true → (h : HasDef w t) × (is_interface h.def ≡ true)
  named t h = let r = named-by t (def_of w t) refl h in let there = def_is t r.0 r.1 in
      (there, subst (λ (d : Def). is_interface d ≡ true) (same_Some r.0 there.def (sym r.1 ∙ def_there t there)) r.2)

  -- it is named with arguments put in too
  pub names_put : (args : List Ty) (t : Ty) → names_interface w t ≡ true → names_interface w (subst_ty args [] t) ≡ true
  names_put args t h = by (named t h).0
    where
      by : HasDef w t → names_interface w (subst_ty args [] t) ≡ true
      by there =
          let same : head (subst_ty args [] t) ≡ head t = ap head (put_headed args t there.number there.head) ∙ ap head_at (ty.outs-Inst (record { 0 = there.number }) (subst_all args [] (arguments t))) ∙ sym there.head in
          ap (λ o. option_map_or is_interface (option_and_then (λ p. slice_get w.defs p) o) false) same ∙ h

  -- what is declared
  pub declared_at : (t : Ty) (h : HasDef w t) → declared w t ≡ subst_all (arguments t) [] h.def.interfaces
  declared_at t h = ap (λ o. subst_all (arguments t) [] (option_map_or (λ (d : Def). d.interfaces) o [])) (def_there t h)

  pub declared_from : (t v : Ty) → Contains (declared w t) v → (h : HasDef w t) × (i : Ty) × Contains h.def.interfaces i × (subst_ty (arguments t) [] i ≡ v)
  declared_from t v c = at (def_of w t) refl c
    where
      at : (o : Option Def) → def_of w t ≡ o → Contains (subst_all (arguments t) [] (option_map_or (λ (d : Def). d.interfaces) o [])) v
          → (h : HasDef w t) × (i : Ty) × Contains h.def.interfaces i × (subst_ty (arguments t) [] i ≡ v)
      at None e c = absurd (none_in v c)
      at (Some d) e c =
          let h = def_is t d e in
          let same : h.def ≡ d = same_Some h.def d (sym (def_there t h) ∙ e) in
          let from = map_from (subst_ty (arguments t) []) d.interfaces v c in
          (h, from.0, subst (λ (x : Def). Contains x.interfaces from.0) (sym same) from.1, from.2)

  -- a tree that is passed over is listed, or names no interface
  pub old_in : (t : Ty) (f : List Ty) → is_new w t f ≡ false → names_interface w t ≡ true → Contains f t
  old_in t f h n = elim (and_cases (names_interface w t) (not (list_any (same_tree t) f)) h) [
    | inl out ↦ absurd (true≢false (sym n ∙ out))
    | inr listed ↦ same_in row-of-ty.the_row.coded t f (listed_is (list_any (same_tree t) f) listed)
  ]
    where
      listed_is : (b : Bool) → not b ≡ false → b ≡ true
      listed_is true e = refl
      listed_is false e = absurd (true≢false e)

-- ---- each interface of a type

module _ (w : Facts) (P : Ty → Type 0) (sound : IsSound w P) (args : List Ty) where
  -- among the types with arguments put in, and an interface
  abbrev pub Among : Ty → Type 0
  Among t = P (subst_ty args [] t) × (names_interface w t ≡ true)

  abbrev Follows : List Ty → List Ty → List Ty → Type 0
  Follows ts f out = ((t : Ty) → Contains ts t → P (subst_ty args [] t)) → ((t : Ty) → Contains f t → Among t) → (t : Ty) → Contains out t → Among t

  pub declared_kept : (t : Ty) → P (subst_ty args [] t) → (v : Ty) → Contains (declared w t) v → P (subst_ty args [] v)
  declared_kept t h v c =
      let from = declared_from w t v c in
      let there = from.0 in
      let exact = sound.based (inst there.number (subst_all args [] (arguments t))) (subst_ty (subst_all args [] (arguments t)) [] from.1)
      (subst P (put_headed args t there.number there.head) h)
      (interface_base w there.number there.def (subst_all args [] (arguments t)) there.here from.1 from.2) in
      subst P (sym (put_in_two w P sound args t from.1 exact) ∙ ap (subst_ty args []) from.3) exact

  follows : Holds w Follows
  follows = record {
    none = λ f ts_in f_in t c. f_in t c;
    old = λ t f e ts_in f_in u c. f_in u c;
    new = λ t f out e inside ts_in f_in u c. inside (declared_kept t (ts_in t (one_in t))) (λ v d. elim (Contains-push_cases f t v d) [
      | inl before ↦ f_in v before
      | inr same ↦ subst Among same (ts_in t (one_in t), (and_parts (names_interface w t) (not (list_any (same_tree t) f)) e).0)
    ]) u c;
    join = λ t ts f g out first rest ts_in f_in u c. rest (λ v d. ts_in v (later v ts t d)) (first (λ v d. ts_in v (front v ts t d)) f_in) u c;
  }
    where
      one_in : (t : Ty) → Contains (t ∷ []) t
      one_in t = first_in t []

      later : (v : Ty) (ts : List Ty) (t : Ty) → Contains ts v → Contains (t ∷ ts) v
      later v ts t d = later_in t ts v d

      front : (v : Ty) (ts : List Ty) (t : Ty) → Contains (t ∷ []) v → Contains (t ∷ ts) v
      front v ts t d = Contains-append_left (t ∷ []) ts v d

module _ (w : Facts) (P : Ty → Type 0) (sound : IsSound w P) where
  abbrev Each : ℕ → Type 0
  Each k = (n : ℕ) (args : List Ty) → P (inst n args) → (list : List Ty) → interfaces k w n ≡ Some list → (t : Ty) → Contains list t → Among w P sound args t

  inherited_kept : (k : ℕ) → Each k → (n : ℕ) (d : Def) (args : List Ty) → P (inst n args) → slice_get w.defs n ≡ Some d → (inherited : List Ty) → IsInherited w k d inherited
      → (t : Ty) → Contains inherited t → Among w P sound args t
  inherited_kept k each n d args h here inherited above t c = elim above [
    | inl none ↦ absurd (none_in t (subst (λ (l : List Ty). Contains l t) none.1 c))
    | inr a ↦
        let p = a.0 in let pargs = subst_all args [] (arguments p) in
        let parent : P (inst a.1 pargs) = subst P (put_headed args p a.1 a.4) (sound.based (inst n args) (subst_ty args [] p) h (parent_base w n d args here p a.3)) in
        let from = map_from (subst_ty (arguments p) []) a.2 t (subst (λ (l : List Ty). Contains l t) a.6 c) in
        let exact = each a.1 pargs parent a.2 a.5 from.0 from.1 in (
          subst P (sym (put_in_two w P sound args p from.0 exact.0) ∙ ap (subst_ty args []) from.2) exact.0,
          ap (names_interface w) (sym from.2) ∙ names_put w (arguments p) from.0 exact.1,
        )
  ]

  at_lists : (k : ℕ) → Each k → (n : ℕ) (args : List Ty) → P (inst n args) → (o : Option Def) → slice_get w.defs n ≡ o → (list : List Ty) → interfaces (suc k) w n ≡ Some list
      → (t : Ty) → Contains list t → Among w P sound args t
  at_lists k each n args h None here list e t c =
      let none : [] ≡ list = same_Some [] list (sym (lists-next w k n ∙ ap (list_at (interfaces k w) w) here) ∙ e) in
      absurd (none_in t (subst (λ (l : List Ty). Contains l t) (sym none) c))
  at_lists k each n args h (Some d) here list e t c =
      let j = split w k n d list here e in
      elim (from_either j.inherited j.own t (subst (λ (l : List Ty). Contains l t) j.is c)) [
        | inl above ↦ inherited_kept k each n d args h here j.inherited j.above t above
        | inr own ↦ followed w (Follows w P sound args) (follows w P sound args) d.interfaces [] j.own j.declared
            (λ i there. sound.based (inst n args) (subst_ty args [] i) h (interface_base w n d args here i there)) (λ v none. absurd (none_in v none)) t own
      ]

  pub lists_kept : (k : ℕ) → Each k
  lists_kept zero n args h list e t c = absurd (none_in t (subst (λ (l : List Ty). Contains l t) (sym (same_Some [] list (sym (lists-none w n) ∙ e))) c))
  lists_kept (suc k) n args h list e t c = at_lists k (lists_kept k) n args h (slice_get w.defs n) refl list e t c
