-- What a member of the closure of a good key is, since it has no fault by itself.
use Rattle.std.proofs.Common.{◌≡◌, ℕ, zero, suc, Bool, true, false, true≢false, not, ◌||◌, nat_eq, cond, inl, inr, List, [], length, Option, None, Some, slice_get, refl, ap, ◌∙◌, sym, subst, eqb-true}
use Rattle.std.specs.List.{list_any, Contains}
use Rattle.std.specs.Option.{option_map_or, option_and_then}
use Rattle.std.proofs.lemmas.Bool.{or_parts, or_left, lt-ltb, false_from_ne_true, true_from_ne_false, not_from_false}
use Rattle.std.proofs.lemmas.Option.{slice_get_within}
use Rattle.clr_base.specs.declared.ids.DefId.{DefId}
use Rattle.type_tree.specs.declared.definition.Def.{Def}
use Rattle.type_tree.specs.declared.definition.Method.{Method}
use Rattle.type_tree.specs.declared.tree.Key.{Key}
use Rattle.type_tree.specs.declared.tree.Key.TheVariants.{Tree, Meth}
use Rattle.type_tree.specs.declared.tree.MethKey.{MethKey}
use Rattle.type_tree.specs.declared.tree.Ty.{Ty}
use Rattle.type_tree.specs.declared.tree.Ty.TheOpen.{Ty-F}
use Rattle.type_tree.specs.declared.tree.Ty.TheVariants as ty
use Rattle.type_tree.specs.declared.tree.Ty.TheViews.{out-Ty}
use Rattle.type_tree.specs.Context.{arguments_at}
use Rattle.type_tree.specs.Kinds as kinds
use Rattle.type_tree.specs.World.{Facts}
use Rattle.load_events.specs.declared.load_fault.LoadFault.{LoadFault}
use Rattle.load_events.specs.declared.load_fault.LoadFault.TheVariants as fault
use Rattle.key_closure.specs.Bounds.{IsClosure}
use Rattle.key_closure.specs.Closures.{IsLeast}
use Rattle.type_relations.specs.Relations.{contents_at}
use Rattle.method_slots.specs.Chains as chains
use Rattle.method_slots.specs.Slots.{is_interface}
use Rattle.interface_lists.specs.Lists.{names_interface, interfaces}
use Rattle.def_faults.specs.BadInterface as bad_interface
use Rattle.def_faults.specs.BadParent as bad_parent
use Rattle.def_faults.specs.BaseCycle.{is_base_cycle}
use Rattle.def_faults.specs.Chains as above
use Rattle.def_faults.specs.NotFound as missing
use Rattle.key_faults.specs.Definitions.{def_at, def_in, with_def, Of}
use Rattle.key_faults.specs.Shapes.{differ, has_arity_fault_at, has_bad_argument_at, is_outside_at}
use Rattle.key_faults.specs.Told.{is_none, passes_bounds}
use Rattle.key_verdicts.specs.declared.verdict.Verdict.TheVariants as verdict
use Rattle.type_judge.specs.Judging.{IsJudged}
use Rattle.type_judge.specs.Table.{Holds}
use Rattle.good_types.specs.Exact.{inst}
use Rattle.good_types.proofs.Bare.{is_bare, all_bare}
use Rattle.good_types.proofs.Elements.{first_in, none_of}
use Rattle.good_types.proofs.Standing.{no_fault, argument_in, base_in, content_in}
use Rattle.good_types.proofs.Sound.{IsSound}

-- ---- the chain of parents, as two definitions tell it

same_through : (f : DefId → Bool) (g : ℕ → Bool) → ((d : DefId) → f d ≡ g d.0) → (v : Ty-F Ty) → option_map_or f (above.head_at v) true ≡ option_map_or g (kinds.head_at v) true
same_through f g same (Ty-F.Inst d args) = same d
same_through f g same (Ty-F.Array e) = refl
same_through f g same (Ty-F.ByRef e) = refl
same_through f g same (Ty-F.Ptr e) = refl
same_through f g same (Ty-F.Var n) = refl
same_through f g same (Ty-F.MVar n) = refl
same_through f g same (Ty-F.Missing name value) = refl
same_through f g same (Ty-F.Odd code) = refl

same_parent : (f : DefId → Bool) (g : ℕ → Bool) → ((d : DefId) → f d ≡ g d.0) → (o : Option Ty) → option_map_or f (above.head_of o) true ≡ option_map_or g (kinds.head_of o) true
same_parent f g same None = refl
same_parent f g same (Some p) = same_through f g same (out-Ty p)

same_at : (f : DefId → Bool) (g : ℕ → Bool) → ((d : DefId) → f d ≡ g d.0) → (o : Option Def) → option_map_or f (above.head_of (kinds.parent_of o)) true ≡ chains.within_at g o
same_at f g same None = refl
same_at f g same (Some d) = same_parent f g same d.parent

same_within : (w : Facts) (k : ℕ) (d : DefId) → above.chain_within (above.parent w) k d ≡ chains.chain_within k w d.0
unfolding above.chain_within chains.chain_within
same_within w zero d = refl
same_within w (suc k) d = same_at (above.chain_within (above.parent w) k) (chains.chain_within k w) (same_within w k) (slice_get w.defs d.0)

-- ---- an instantiation of a definition that is there

module _ (w : Facts) (n : ℕ) (d : Def) (args : List Ty) (here : slice_get w.defs n ≡ Some d) where
  abbrev id : DefId
  id = record { 0 = n }

  in_world : def_in w (inst n args) ≡ Some id
  in_world = ap (def_at w) (ty.outs-Inst id args) ∙ ap (λ b. cond b (Some id) None) (lt-ltb n (length w.defs) (slice_get_within w.defs n d here))

  with_it : (p : DefId → Bool) → with_def w p (inst n args) ≡ p id
  with_it p = ap (λ (o : Option DefId). option_map_or p o false) in_world

-- ---- what is declared to be implemented

same_names : (w : Facts) (v : Ty-F Ty) → bad_interface.is_interface_type_at w v ≡ option_map_or is_interface (option_and_then (λ p. slice_get w.defs p) (kinds.head_at v)) false
same_names w (Ty-F.Inst d args) = refl
same_names w (Ty-F.Array e) = refl
same_names w (Ty-F.ByRef e) = refl
same_names w (Ty-F.Ptr e) = refl
same_names w (Ty-F.Var n) = refl
same_names w (Ty-F.MVar n) = refl
same_names w (Ty-F.Missing name value) = refl
same_names w (Ty-F.Odd code) = refl

from_not : (b : Bool) → not b ≡ false → b ≡ true
from_not true e = refl
from_not false e = absurd (true≢false e)

some_of : {A : Type 0} (o : Option A) → is_none o ≡ false → (x : A) × (o ≡ Some x)
some_of None e = absurd (true≢false e)
some_of (Some x) e = (x, refl)

module _ (w : Facts) (root : Key) (members : List Key) (judged : IsJudged w root (verdict.Good members)) where
  abbrev pub P : Ty → Type 0
  P t = Contains members (Tree t)

  abbrev none : (t : Ty) → P t → (f : LoadFault) → Holds w (Tree t) f → ⊥
  none t c f = no_fault w root members judged (Tree t) c f

  pub no_outside : (t : Ty) → P t → is_outside_at (out-Ty t) ≡ true → ⊥
  no_outside t c h = none t c fault.NotInProfile (inl h)

  pub no_bad_argument : (t : Ty) → P t → has_bad_argument_at (out-Ty t) ≡ true → ⊥
  no_bad_argument t c h = none t c fault.BadArgument h

  -- ---- as many arguments as generic parameters

  as_many : {A B : Type 0} (xs : List A) (ys : List B) → (differ xs ys ≡ true → ⊥) → length xs ≡ length ys
  as_many xs ys h = eqb-true (length xs) (length ys) (true_from_ne_false (nat_eq (length xs) (length ys)) (λ e. h (not_from_false (nat_eq (length xs) (length ys)) e)))

  pub type_arity : (n : ℕ) (d : Def) (args : List Ty) → P (inst n args) → slice_get w.defs n ≡ Some d → length args ≡ length d.formals
  type_arity n d args c here = as_many args d.formals (λ h. none (inst n args) c fault.Arity
      (ap (has_arity_fault_at w) (ty.outs-Inst (record { 0 = n }) args) ∙ ap (λ o. option_map_or (λ (def : Def). differ args def.formals) o false) here ∙ h))

  pub method_arity : (k : MethKey) (m : Method) → Contains members (Meth k) → slice_get w.methods k.method.0 ≡ Some m → length k.args ≡ length m.formals
  method_arity k m c here = as_many k.args m.formals (λ h. no_fault w root members judged (Meth k) c fault.Arity
      (ap (λ o. option_map_or (λ (x : Method). differ k.args x.formals) o false) here ∙ h))

  -- ---- by the definition

  module _ (n : ℕ) (d : Def) (args : List Ty) (c : P (inst n args)) (here : slice_get w.defs n ≡ Some d) where
    abbrev it : DefId
    it = record { 0 = n }

    pub short : chains.IsWithin w n
    short = sym (same_within w chains.longest_chain it)
        ∙ true_from_ne_false (above.chain_within (above.parent w) chains.longest_chain it)
        (λ e. none (inst n args) c fault.BaseCycle (with_it w n d args here (is_base_cycle w) ∙ not_from_false (above.chain_within (above.parent w) chains.longest_chain it) e))

    -- neither a bad interface nor a list that passes the bounds
    lists : (bad_interface.is_bad_interface w it ≡ false) × (passes_bounds w it ≡ false)
    lists = or_parts (bad_interface.is_bad_interface w it) (passes_bounds w it) (false_from_ne_true (bad_interface.is_bad_interface w it || passes_bounds w it)
        (λ e. none (inst n args) c fault.BadInterface (with_it w n d args here (λ (x : DefId). bad_interface.is_bad_interface w x || passes_bounds w x) ∙ e)))

    pub some_list : (list : List Ty) × (interfaces chains.longest_chain w n ≡ Some list)
    some_list = some_of (interfaces chains.longest_chain w n) lists.1

    pub implements_one : (i : Ty) → Contains d.interfaces i → names_interface w i ≡ true
    implements_one i there =
        let good : list_any (λ t. not (bad_interface.is_interface_type w t)) d.interfaces ≡ false = sym (ap (λ o. option_map_or (bad_interface.has_bad_interface w) o false) here) ∙ lists.0 in
        sym (same_names w (out-Ty i)) ∙ from_not (bad_interface.is_interface_type w i) (none_of (λ t. not (bad_interface.is_interface_type w t)) d.interfaces i good there)

    -- a parent that may not be one
    pub no_bad_parent : bad_parent.has_bad_parent_at w it d d.parent ≡ true → ⊥
    no_bad_parent h = none (inst n args) c fault.BadParent
        (with_it w n d args here (bad_parent.is_bad_parent w) ∙ (ap (λ o. option_map_or (bad_parent.has_bad_parent w it) o false) here ∙ h))

    pub no_parent : is_interface d ≡ true → d.parent ≡ None
    no_parent face = at d.parent refl
      where
        at : (o : Option Ty) → d.parent ≡ o → o ≡ None
        at None e = refl
        at (Some p) e = absurd (no_bad_parent (ap (bad_parent.has_bad_parent_at w it d) e ∙ or_left (is_interface d) (bad_parent.may_not_be_extended w p) face))

    -- a parent that stands nowhere
    pub no_missing_parent : missing.is_missing_parent d.parent ≡ true → ⊥
    no_missing_parent h = none (inst n args) c fault.NotFound (inr (subst (Of (missing.NotFound w)) (sym (in_world w n d args here)) (record {
      parents = 0;
      it = it;
      there = refl;
      passes = ap (λ o. option_map_or (missing.lacks_a_type w) o false) here
          ∙ or_left (missing.is_missing_parent d.parent || list_any missing.is_missing d.interfaces) _ (or_left (missing.is_missing_parent d.parent) _ h);
    })))

-- ---- the types of the closure

module _ (least : (needs : Key → List Key) (key : Key) (keys : List Key) → IsClosure needs key keys → IsLeast needs key keys)
    (w : Facts) (root : Key) (members : List Key) (judged : IsJudged w root (verdict.Good members)) where
  members_bare : (t : Ty) → P w root members judged t → is_bare t ≡ true
  members_bare = all_bare (P w root members judged)
      (λ d ts t c there. argument_in least w root members judged (ty.Inst d ts) t c (subst (λ (l : List Ty). Contains l t) (sym (ap arguments_at (ty.outs-Inst d ts))) there))
      (λ t c. content_in least w root members judged (ty.Array t) t c (subst (λ (l : List Ty). Contains l t) (sym (ap (contents_at w) (ty.outs-Array t))) (first_in t [])))
      (λ t c. no_outside w root members judged (ty.ByRef t) c (ap is_outside_at (ty.outs-ByRef t)))
      (λ t c. no_outside w root members judged (ty.Ptr t) c (ap is_outside_at (ty.outs-Ptr t)))
      (λ n c. no_bad_argument w root members judged (ty.Var n) c (ap has_bad_argument_at (ty.outs-Var n)))
      (λ n c. no_bad_argument w root members judged (ty.MVar n) c (ap has_bad_argument_at (ty.outs-MVar n)))

  pub sound : IsSound w (P w root members judged)
  sound = record { based = base_in least w root members judged; bare = members_bare; arity = type_arity w root members judged }
