-- The chain of parents and the interfaces of a type are all its supers: what each of them extends or implements is among them.
use Rattle.std.proofs.Common.{◌≡◌, ℕ, zero, suc, true, true≢false, ◌⊎◌, inl, inr, List, [], ◌∷◌, ◌++◌, Option, None, Some, slice_get, refl, ap, ◌∙◌, sym, subst}
use Rattle.std.specs.List.{Contains}
use Rattle.std.proofs.lemmas.Option.{none-some, same_Some}
use Rattle.std.proofs.lemmas.List.Elements.{Contains-append_left, Contains-push, Contains-push_cases}
use Rattle.type_tree.specs.declared.definition.Def.{Def}
use Rattle.type_tree.specs.declared.tree.Ty.{Ty}
use Rattle.type_tree.specs.Context.{arguments}
use Rattle.type_tree.specs.Kinds.{head, head_of}
use Rattle.type_tree.specs.Subst.{subst_ty, subst_all}
use Rattle.type_tree.specs.World.{Facts}
use Rattle.type_relations.specs.Relations.{bases}
use Rattle.method_slots.specs.Chains.{chain, chain_at, chain_within, handed_on}
use Rattle.method_slots.specs.Slots.{is_interface, in_own}
use Rattle.slot_chains.proofs.ChainLemmas.{within-above, within-none}
use Rattle.interface_lists.specs.Lists.{names_interface, declared, is_new, interfaces, list_at}
use Rattle.good_types.specs.Exact.{inst}
use Rattle.good_types.proofs.Chains.{put_tree, chain-next, own_is, alone, behind}
use Rattle.good_types.proofs.Elements.{first_in, none_in, in_cases, map_from, map_in}
use Rattle.good_types.proofs.Follows.{Holds, followed}
use Rattle.good_types.proofs.Joined.{IsJoined, lists-next, split, from_inherited, from_own, from_either}
use Rattle.good_types.proofs.Lists.{HasDef, named, names_put, declared_at, old_in, lists_kept}
use Rattle.good_types.proofs.Sound.{IsSound, parent_base, interface_base, base_cases, put_headed, put_in_two}

-- A parent is an instantiation of a definition that is there, an interface has none, and what is declared to be implemented is an interface.
pub record IsSettled (w : Facts) (P : Ty → Type 0) : Type 0 where
  pub sound : IsSound w P
  pub extended : (n : ℕ) (d : Def) (args : List Ty) (p : Ty) → P (inst n args) → slice_get w.defs n ≡ Some d → d.parent ≡ Some p → HasDef w p
  pub rootless : (n : ℕ) (d : Def) (args : List Ty) → P (inst n args) → slice_get w.defs n ≡ Some d → is_interface d ≡ true → d.parent ≡ None
  pub implements : (n : ℕ) (d : Def) (args : List Ty) (i : Ty) → P (inst n args) → slice_get w.defs n ≡ Some d → Contains d.interfaces i → names_interface w i ≡ true

-- ---- a list that is followed has what its trees declare

abbrev HasDeclared : Facts → List Ty → Ty → Type 0
HasDeclared w out u = (v : Ty) → Contains (declared w u) v → names_interface w v ≡ true → Contains out v

record Closes (w : Facts) (ts f out : List Ty) : Type 0 where
  keeps : (u : Ty) → Contains f u → Contains out u
  has : (u : Ty) → Contains ts u → names_interface w u ≡ true → Contains out u
  closed : (u : Ty) → Contains out u → Contains f u ⊎ HasDeclared w out u

only : (t u : Ty) → Contains (t ∷ []) u → t ≡ u
only t u c = elim (in_cases t [] u c) [ inl e ↦ e | inr none ↦ absurd (none_in u none) ]

closes_new : (w : Facts) (t : Ty) (f out : List Ty) → is_new w t f ≡ true → Closes w (declared w t) (f ++ t ∷ []) out → Closes w (t ∷ []) f out
closes_new w t f out e c = record {
  keeps = λ u d. c.keeps u (Contains-append_left f (t ∷ []) u d);
  has = λ u d n. subst (λ v. Contains out v) (only t u d) (c.keeps t (Contains-push f t));
  closed = λ u d. elim (c.closed u d) [
    | inr all ↦ inr all
    | inl before ↦ elim (Contains-push_cases f t u before) [
      | inl old ↦ inl old
      | inr same ↦ inr (subst (λ v. HasDeclared w out v) same c.has)
    ]
  ];
}

closes_join : (w : Facts) (t : Ty) (ts f g out : List Ty) → Closes w (t ∷ []) f g → Closes w ts g out → Closes w (t ∷ ts) f out
closes_join w t ts f g out a b = record {
  keeps = λ u d. b.keeps u (a.keeps u d);
  has = λ u d n. elim (in_cases t ts u d) [
    | inl e ↦ b.keeps u (a.has u (subst (λ v. Contains (t ∷ []) v) e (first_in t [])) n)
    | inr later ↦ b.has u later n
  ];
  closed = λ u d. elim (b.closed u d) [
    | inr all ↦ inr all
    | inl before ↦ elim (a.closed u before) [ inl old ↦ inl old | inr all ↦ inr (λ v e n. b.keeps v (all v e n)) ]
  ];
}

closes : (w : Facts) → Holds w (Closes w)
closes w = record {
  none = λ f. record { keeps = λ u c. c; has = λ u c n. absurd (none_in u c); closed = λ u c. inl c };
  old = λ t f e. record { keeps = λ u c. c; has = λ u c n. subst (λ v. Contains f v) (only t u c) (old_in w t f e (ap (names_interface w) (only t u c) ∙ n)); closed = λ u c. inl c };
  new = closes_new w;
  join = closes_join w;
}

-- ---- the set

-- on the chain, or in the list
abbrev pub InSet : ℕ → Facts → ℕ → List Ty → List Ty → Ty → Type 0
InSet k w n args list g = Contains (subst_all args [] (chain k w n)) g ⊎ Contains (subst_all args [] list) g

module _ (w : Facts) (P : Ty → Type 0) (settled : IsSettled w P) where
  -- the type itself is on its chain
  pub itself_in : (k n : ℕ) (d : Def) (args : List Ty) → P (inst n args) → slice_get w.defs n ≡ Some d → chain_within k w n ≡ true → Contains (subst_all args [] (chain k w n)) (inst n args)
  itself_in zero n d args h here within = absurd (true≢false (sym within ∙ within-none w n))
  itself_in (suc k) n d args h here within = subst (λ v. Contains (subst_all args [] (chain (suc k) w n)) v) (own_is w P settled.sound n d args h here)
      (map_in (subst_ty args []) (chain (suc k) w n) (in_own n d)
      (subst (λ (l : List Ty). Contains l (in_own n d)) (sym (chain-next w k n ∙ ap (chain_at (chain k w) n) here)) (Contains-push (handed_on put_tree (chain k w) d.parent) (in_own n d))))

  module _ (k n : ℕ) (d : Def) (args list : List Ty) (h : P (inst n args)) (here : slice_get w.defs n ≡ Some d) (j : IsJoined w k d list) where
    abbrev In : Ty → Type 0
    In g = InSet (suc k) w n args list g

    abbrev Own : Ty → Type 0
    Own g = (u : Ty) × Contains j.own u × (subst_ty args [] u ≡ g)

    -- what stands there is the type, what its parent has, or its own
    record Parts (Above : Ty → Type 0) : Type 0 where
      down : (g : Ty) → In g → (inst n args ≡ g) ⊎ (Above g ⊎ Own g)
      up : (g : Ty) → Above g → In g
      closed : (g v : Ty) → Above g → Contains (bases w g) v → Above v
      parent : (p : Ty) → d.parent ≡ Some p → Above (subst_ty args [] p)

    own_in : (u : Ty) → Contains j.own u → In (subst_ty args [] u)
    own_in u c = inr (map_in (subst_ty args []) list u (subst (λ (l : List Ty). Contains l u) (sym j.is) (from_own j.inherited j.own u c)))

    walk : Closes w d.interfaces [] j.own
    walk = followed w (Closes w) (closes w) d.interfaces [] j.own j.declared

    -- the interfaces of one of its own
    own_closed : (u g v : Ty) → Contains j.own u → subst_ty args [] u ≡ g → (there : HasDef w u) → is_interface there.def ≡ true → P g → Contains (bases w g) v → In v
    own_closed u g v c e there face kept b =
        let uargs = subst_all args [] (arguments u) in
        let is : g ≡ inst there.number uargs = sym e ∙ put_headed args u there.number there.head in
        let exact : P (inst there.number uargs) = subst P is kept in
        elim (base_cases w there.number there.def uargs there.here v (subst (λ x. Contains (bases w x) v) is b)) [
          | inl above ↦ absurd (none-some above.0 (sym (settled.rootless there.number there.def uargs exact there.here face) ∙ above.1))
          | inr i ↦
              let name = settled.implements there.number there.def uargs i.0 exact there.here i.1 in
              let base = settled.sound.based (inst there.number uargs) (subst_ty uargs [] i.0) exact (interface_base w there.number there.def uargs there.here i.0 i.1) in
              let open_ = subst_ty (arguments u) [] i.0 in
              let said : Contains (declared w u) open_ = subst (λ (l : List Ty). Contains l open_) (sym (declared_at w u there)) (map_in (subst_ty (arguments u) []) there.def.interfaces i.0 i.1) in
              elim (walk.closed u c) [
                | inl none ↦ absurd (none_in u none)
                | inr all ↦ subst In (put_in_two w P settled.sound args u i.0 base ∙ i.2) (own_in open_ (all open_ said (names_put w (arguments u) i.0 name)))
              ]
        ]

    by_parts : (Above : Ty → Type 0) → Parts Above → ((u : Ty) → Contains j.own u → P (subst_ty args [] u) × (names_interface w u ≡ true)) → (g v : Ty) → In g → Contains (bases w g) v → In v
    by_parts Above parts each g v c b = elim (parts.down g c) [
      | inl e ↦ elim (base_cases w n d args here v (subst (λ x. Contains (bases w x) v) (sym e) b)) [
        | inl above ↦ subst In above.2 (parts.up (subst_ty args [] above.0) (parts.parent above.0 above.1))
        | inr i ↦ subst In i.2 (own_in i.0 (walk.has i.0 i.1 (settled.implements n d args i.0 h here i.1)))
      ]
      | inr rest ↦ elim rest [
        | inl above ↦ parts.up v (parts.closed g v above b)
        | inr own ↦
            let among = each own.0 own.1 in
            let face = named w own.0 among.1 in
            own_closed own.0 g v own.1 own.2 face.0 face.1 (subst P own.2 among.0) b
      ]
    ]

    -- ---- without a parent

    no_parts : head_of d.parent ≡ None → j.inherited ≡ [] → Parts (λ g. ⊥)
    no_parts none empty = record {
      down = λ g c. elim c [
        | inl on ↦ inl (only (inst n args) g (subst (λ (l : List Ty). Contains l g) (alone w P settled.sound k n d args h here none) on))
        | inr listed ↦
            let from = map_from (subst_ty args []) list g listed in
            elim (from_either j.inherited j.own from.0 (subst (λ (l : List Ty). Contains l from.0) j.is from.1)) [
              | inl above ↦ absurd (none_in from.0 (subst (λ (l : List Ty). Contains l from.0) empty above))
              | inr own ↦ inr (inr (from.0, own, from.2))
            ]
      ];
      up = λ g c. absurd c;
      closed = λ g v c b. c;
      parent = λ p e. let there = settled.extended n d args p h here e in none-some there.number (sym none ∙ (ap head_of e ∙ there.head));
    }

    -- ---- with one

    module _ (p : Ty) (m : ℕ) (l : List Ty) (extends : d.parent ≡ Some p) (is : head p ≡ Some m) (found : interfaces k w m ≡ Some l) (same : j.inherited ≡ subst_all (arguments p) [] l) where
      abbrev pargs : List Ty
      pargs = subst_all args [] (arguments p)

      exact_parent : subst_ty args [] p ≡ inst m pargs
      exact_parent = put_headed args p m is

      parent_kept : P (inst m pargs)
      parent_kept = subst P exact_parent (settled.sound.based (inst n args) (subst_ty args [] p) h (parent_base w n d args here p extends))

      abbrev InParent : Ty → Type 0
      InParent g = InSet k w m pargs l g

      listed_up : (u : Ty) → Contains l u → subst_ty args [] (subst_ty (arguments p) [] u) ≡ subst_ty pargs [] u
      listed_up u c = put_in_two w P settled.sound args p u (lists_kept w P settled.sound k m pargs parent_kept l found u c).0

      up : (g : Ty) → InParent g → In g
      up g c = elim c [
        | inl on ↦ inl (subst (λ (xs : List Ty). Contains xs g) (sym (behind w P settled.sound k n d args h here p m extends is)) (Contains-append_left (subst_all pargs [] (chain k w m)) (inst n args ∷ []) g on))
        | inr listed ↦
            let from = map_from (subst_ty pargs []) l g listed in
            let open_ = subst_ty (arguments p) [] from.0 in
            let there : Contains j.inherited open_ = subst (λ (xs : List Ty). Contains xs open_) (sym same) (map_in (subst_ty (arguments p) []) l from.0 from.1) in
            subst In (listed_up from.0 from.1 ∙ from.2) (inr (map_in (subst_ty args []) list open_ (subst (λ (xs : List Ty). Contains xs open_) (sym j.is) (from_inherited j.inherited j.own open_ there))))
      ]

      down : (g : Ty) → In g → (inst n args ≡ g) ⊎ (InParent g ⊎ Own g)
      down g c = elim c [
        | inl on ↦ elim (Contains-push_cases (subst_all pargs [] (chain k w m)) (inst n args) g (subst (λ (xs : List Ty). Contains xs g) (behind w P settled.sound k n d args h here p m extends is) on)) [
          | inl above ↦ inr (inl (inl above))
          | inr e ↦ inl e
        ]
        | inr listed ↦
            let from = map_from (subst_ty args []) list g listed in
            elim (from_either j.inherited j.own from.0 (subst (λ (xs : List Ty). Contains xs from.0) j.is from.1)) [
              | inl above ↦
                  let old = map_from (subst_ty (arguments p) []) l from.0 (subst (λ (xs : List Ty). Contains xs from.0) same above) in
                  let e : subst_ty pargs [] old.0 ≡ g = sym (listed_up old.0 old.1) ∙ ap (subst_ty args []) old.2 ∙ from.2 in
                  inr (inl (inr (subst (λ v. Contains (subst_all pargs [] l) v) e (map_in (subst_ty pargs []) l old.0 old.1))))
              | inr own ↦ inr (inr (from.0, own, from.2))
            ]
      ]

      some_parts : chain_within k w m ≡ true → ((g v : Ty) → InParent g → Contains (bases w g) v → InParent v) → Parts InParent
      some_parts within closed = record {
        down = down;
        up = up;
        closed = closed;
        parent = λ q e.
            let there = settled.extended n d args p h here extends in
            let one : there.number ≡ m = same_Some there.number m (sym there.head ∙ is) in
            let found_there : slice_get w.defs m ≡ Some there.def = ap (slice_get w.defs) (sym one) ∙ there.here in
            let q_is : p ≡ q = same_Some p q (sym extends ∙ e) in
            subst InParent (sym exact_parent ∙ ap (subst_ty args []) q_is) (inl (itself_in k m there.def pargs parent_kept found_there within));
      }

  abbrev Closed : ℕ → Type 0
  Closed k = (n : ℕ) (args : List Ty) → P (inst n args) → chain_within k w n ≡ true → (list : List Ty) → interfaces k w n ≡ Some list → (g v : Ty) → InSet k w n args list g → Contains (bases w g) v → InSet k w n args list v

  at_def : (k : ℕ) → Closed k → (n : ℕ) (args : List Ty) → P (inst n args) → chain_within (suc k) w n ≡ true → (o : Option Def) → slice_get w.defs n ≡ o → (list : List Ty) → interfaces (suc k) w n ≡ Some list
      → (g v : Ty) → InSet (suc k) w n args list g → Contains (bases w g) v → InSet (suc k) w n args list v
  at_def k below n args h within None here list e g v c b = elim c [
    | inl on ↦ absurd (none_in g (subst (λ (l : List Ty). Contains (subst_all args [] l) g) (chain-next w k n ∙ ap (chain_at (chain k w) n) here) on))
    | inr listed ↦ absurd (none_in g (subst (λ (l : List Ty). Contains (subst_all args [] l) g) (sym (same_Some [] list (sym (lists-next w k n ∙ ap (list_at (interfaces k w) w) here) ∙ e))) listed))
  ]
  at_def k below n args h within (Some d) here list e g v c b =
      let j = split w k n d list here e in
      let each = λ (u : Ty) (own : Contains j.own u). lists_kept w P settled.sound (suc k) n args h list e u (subst (λ (l : List Ty). Contains l u) (sym j.is) (from_own j.inherited j.own u own)) in
      elim j.above [
        | inl none ↦ by_parts k n d args list h here j (λ x. ⊥) (no_parts k n d args list h here j none.0 none.1) each g v c b
        | inr a ↦
            let pargs = subst_all args [] (arguments a.0) in
            let inside = within-above w k n a.1 within (record { def = d; here = here; parent = ap head_of a.3 ∙ a.4 }) in
            let kept = parent_kept k n d args list h here j a.0 a.1 a.2 a.3 a.4 a.5 a.6 in
            by_parts k n d args list h here j (InSet k w a.1 pargs a.2) (some_parts k n d args list h here j a.0 a.1 a.2 a.3 a.4 a.5 a.6 inside (below a.1 pargs kept inside a.2 a.5)) each g v c b
      ]

  -- what each type of the set extends or implements is in it
  pub set_closed : (k : ℕ) → Closed k
  set_closed zero n args h within list e g v c b = absurd (true≢false (sym within ∙ within-none w n))
  set_closed (suc k) n args h within list e g v c b = at_def k (set_closed k) n args h within (slice_get w.defs n) refl list e g v c b
