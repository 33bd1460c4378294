-- Numbers that fit a world still do where arguments are put in, in canonical forms, and in the key of a context.
use Rattle.std.proofs.Common.{◌≡◌, ℕ, zero, suc, Bool, true, false, List, [], ◌∷◌, map, Option, None, Some, IsTrue, refl, sym, ap, ap₂, ◌∙◌, subst}
use Rattle.std.specs.Prelude.{nat_lt, ◌&&◌, if◌then◌else◌}
use Rattle.std.specs.List.{list_all}
use Rattle.std.specs.Cmp.Derive.{both_true}
use Rattle.std.proofs.lemmas.Bool.{and_parts}
use Rattle.clr_base.specs.declared.ids.DefId.{DefId}
use Rattle.type_tree.specs.declared.counts.Counts.{Counts}
use Rattle.type_tree.specs.declared.tree.Ty.{Ty}
use Rattle.type_tree.specs.declared.tree.Ty.TheVariants as ty
use Rattle.type_tree.specs.declared.tree.Ty.TheOpen.{Ty-F}
use Rattle.type_tree.specs.declared.tree.Ty.TheViews.{out-Ty, roll-Ty, out-roll-Ty}
use Rattle.type_tree.specs.declared.tree.Key.{Key}
use Rattle.type_tree.specs.declared.tree.Key.TheVariants.{Tree, Meth}
use Rattle.type_tree.specs.World.{Facts}
use Rattle.type_tree.specs.Canon as spec
use Rattle.type_tree.specs.Context.{arguments, arguments_at, key_of}
use Rattle.type_tree.specs.Fits.{fits, fits_step, all_fit, key_fits}
use Rattle.type_tree.specs.Kinds.{is_reference}
use Rattle.type_tree.specs.Subst.{entry, subst_ty, subst_step, subst_all}
use Rattle.type_tree.specs.Subst as put
use Rattle.type_tree.specs.Whole.{IsWhole, counts}
use Rattle.type_tree.proofs.CanonLemmas.{canon-Inst, canon-Array, canon-ByRef, canon-Ptr, canon-Var, canon-MVar, canon-Missing, canon-Odd}
use Rattle.type_tree.proofs.Folds.{Known, trees, by_variants, fold-Inst, fold-Array, fold-ByRef, fold-Ptr, fold-Var, fold-MVar, fold-Missing, fold-Odd}
use Rattle.type_tree.proofs.Trees.{out-Inst}
use Rattle.type_tree.proofs.WholeLemmas.{parts}

module _ (c : Counts) where
  abbrev Fits : Ty → Type 0
  Fits t = fits c t ≡ true

  inst-is : (d : DefId) (ts : List Ty) → fits c (ty.Inst d ts) ≡ (nat_lt d.0 c.defs && all_fit c ts)
  inst-is d ts = fold-Inst Bool (fits_step c) d ts

  array-is : (t : Ty) → fits c (ty.Array t) ≡ fits c t
  array-is t = fold-Array Bool (fits_step c) t

  by_ref-is : (t : Ty) → fits c (ty.ByRef t) ≡ fits c t
  by_ref-is t = fold-ByRef Bool (fits_step c) t

  ptr-is : (t : Ty) → fits c (ty.Ptr t) ≡ fits c t
  ptr-is t = fold-Ptr Bool (fits_step c) t

  var-fits : (n : ℕ) → Fits (ty.Var n)
  var-fits n = fold-Var Bool (fits_step c) n

  mvar-fits : (n : ℕ) → Fits (ty.MVar n)
  mvar-fits n = fold-MVar Bool (fits_step c) n

  -- what a map of trees that keeps them fitting does with the trees of an instantiation
  abbrev Keeps : (Ty → Ty) → Ty → Type 0
  Keeps f t = Fits t → Fits (f t)

  all_known : (f : Ty → Ty) (ps : List (Known (Keeps f))) → all_fit c (trees (Keeps f) ps) ≡ true → all_fit c (map f (trees (Keeps f) ps)) ≡ true
  all_known f [] h = refl
  all_known f (p ∷ ps) h = let s = and_parts (fits c p.0) (all_fit c (trees (Keeps f) ps)) h in both_true (p.1 s.0) (all_known f ps s.1)

  all_keep : (f : Ty → Ty) (each : (t : Ty) → Keeps f t) (ts : List Ty) → all_fit c ts ≡ true → all_fit c (map f ts) ≡ true
  all_keep f each [] h = refl
  all_keep f each (t ∷ ts) h = let s = and_parts (fits c t) (all_fit c ts) h in both_true (each t s.0) (all_keep f each ts s.1)

  inst_fits : (d : DefId) (ts us : List Ty) → (all_fit c ts ≡ true → all_fit c us ≡ true) → Fits (ty.Inst d ts) → Fits (ty.Inst d us)
  inst_fits d ts us step h =
      let s = and_parts (nat_lt d.0 c.defs) (all_fit c ts) (sym (inst-is d ts) ∙ h) in
      inst-is d us ∙ both_true s.0 (step s.1)

  -- ---- arguments put in

  entry_fits : (ts : List Ty) (n : ℕ) (otherwise : Ty) → all_fit c ts ≡ true → Fits otherwise → Fits (entry ts n otherwise)
  entry_fits [] n otherwise all h = h
  entry_fits (t ∷ ts) zero otherwise all h = (and_parts (fits c t) (all_fit c ts) all).0
  entry_fits (t ∷ ts) (suc n) otherwise all h = entry_fits ts n otherwise (and_parts (fits c t) (all_fit c ts) all).1 h

  module _ (types methods : List Ty) (types_fit : all_fit c types ≡ true) (methods_fit : all_fit c methods ≡ true) where
    abbrev f : Ty → Ty
    f = subst_ty types methods

    abbrev s : Ty-F Ty → Ty
    s = subst_step types methods

    pub put_fits : (t : Ty) → Keeps f t
    put_fits = by_variants (Keeps f) (record {
      inst = λ d ps h.
          subst Fits (sym (fold-Inst Ty s d (trees (Keeps f) ps)))
          (inst_fits d (trees (Keeps f) ps) (map f (trees (Keeps f) ps)) (all_known f ps) h);
      array = λ t step h. subst Fits (sym (fold-Array Ty s t)) (array-is (f t) ∙ step (sym (array-is t) ∙ h));
      by_ref = λ t step h. subst Fits (sym (fold-ByRef Ty s t)) (by_ref-is (f t) ∙ step (sym (by_ref-is t) ∙ h));
      ptr = λ t step h. subst Fits (sym (fold-Ptr Ty s t)) (ptr-is (f t) ∙ step (sym (ptr-is t) ∙ h));
      var = λ n h. subst Fits (sym (fold-Var Ty s n)) (entry_fits types n (ty.Var n) types_fit (var-fits n));
      mvar = λ n h. subst Fits (sym (fold-MVar Ty s n)) (entry_fits methods n (ty.MVar n) methods_fit (mvar-fits n));
      missing = λ name value h. subst Fits (sym (fold-Missing Ty s name value)) h;
      odd = λ code h. subst Fits (sym (fold-Odd Ty s code)) h;
    })

    pub key_put_fits : (k : Key) → key_fits c k ≡ true → key_fits c (put.subst k types methods) ≡ true
    key_put_fits (Tree t) h = put_fits t h
    key_put_fits (Meth k) h =
        let both = and_parts (nat_lt k.method.0 c.methods && fits c k.owner) (all_fit c k.args) h in
        let front = and_parts (nat_lt k.method.0 c.methods) (fits c k.owner) both.0 in
        both_true (both_true front.0 (put_fits k.owner front.1)) (all_keep f put_fits k.args both.1)

  -- ---- the key of a context

  arguments_of_inst : (d : DefId) (ts : List Ty) → arguments (ty.Inst d ts) ≡ ts
  arguments_of_inst d ts = ap arguments_at (out-Inst d ts)

  abbrev Lends : Ty → Type 0
  Lends t = Fits t → all_fit c (arguments t) ≡ true

  none_lent : (t : Ty) (y : Ty-F Ty) → roll-Ty y ≡ t → all_fit c (arguments_at y) ≡ true → all_fit c (arguments t) ≡ true
  none_lent t y is h = subst (λ u. all_fit c (arguments u) ≡ true) is (subst (λ v. all_fit c (arguments_at v) ≡ true) (sym (out-roll-Ty y)) h)

  arguments_fit : (t : Ty) → Lends t
  arguments_fit = by_variants Lends (record {
    inst = λ d ps h.
        subst (λ ts. all_fit c ts ≡ true) (sym (arguments_of_inst d (trees Lends ps)))
        (and_parts (nat_lt d.0 c.defs) (all_fit c (trees Lends ps)) (sym (inst-is d (trees Lends ps)) ∙ h)).1;
    array = λ t step h. none_lent (ty.Array t) (Ty-F.Array t) (ty.rolls-Array t) refl;
    by_ref = λ t step h. none_lent (ty.ByRef t) (Ty-F.ByRef t) (ty.rolls-ByRef t) refl;
    ptr = λ t step h. none_lent (ty.Ptr t) (Ty-F.Ptr t) (ty.rolls-Ptr t) refl;
    var = λ n h. none_lent (ty.Var n) (Ty-F.Var n) (ty.rolls-Var n) refl;
    mvar = λ n h. none_lent (ty.MVar n) (Ty-F.MVar n) (ty.rolls-MVar n) refl;
    missing = λ name value h. none_lent (ty.Missing name value) (Ty-F.Missing name value) (ty.rolls-Missing name value) refl;
    odd = λ code h. none_lent (ty.Odd code) (Ty-F.Odd code) (ty.rolls-Odd code) refl;
  })

  pub key_of_fits : (context : Option Key) (sig : Key) → ((k : Key) → context ≡ Some k → key_fits c k ≡ true) → key_fits c sig ≡ true
      → key_fits c (key_of context sig) ≡ true
  key_of_fits None sig of h = h
  key_of_fits (Some (Tree t)) sig of h = key_put_fits (arguments t) [] (arguments_fit t (of (Tree t) refl)) refl sig h
  key_of_fits (Some (Meth k)) sig of h =
      let both = and_parts (nat_lt k.method.0 c.methods && fits c k.owner) (all_fit c k.args) (of (Meth k) refl) in
      let front = and_parts (nat_lt k.method.0 c.methods) (fits c k.owner) both.0 in
      key_put_fits (arguments k.owner) k.args (arguments_fit k.owner front.1) both.1 sig h

  -- ---- canonical forms

  module _ (w : Facts) (canon_fits : nat_lt w.canon.0 c.defs ≡ true) where
    abbrev canon : Ty → Ty
    canon = spec.canon_ty w

    shared_is : (t : Ty) (reference : Bool) → Fits (canon t) → Fits (if reference then spec.canon_type w else canon t)
    shared_is t true h = inst-is w.canon [] ∙ both_true canon_fits refl
    shared_is t false h = h

    shared_fits : (t : Ty) → Keeps canon t → Keeps (spec.shared_form w) t
    shared_fits t step h = shared_is t (is_reference w t) (step h)

    all_shared : (ps : List (Known (Keeps canon))) → all_fit c (trees (Keeps canon) ps) ≡ true → all_fit c (spec.shared_forms w (trees (Keeps canon) ps)) ≡ true
    all_shared [] h = refl
    all_shared (p ∷ ps) h =
        let both = and_parts (fits c p.0) (all_fit c (trees (Keeps canon) ps)) h in both_true (shared_fits p.0 p.1 both.0) (all_shared ps both.1)

    pub canon_keeps : (t : Ty) → Keeps canon t
    canon_keeps = by_variants (Keeps canon) (record {
      inst = λ d ps h.
          subst Fits (sym (canon-Inst w d (trees (Keeps canon) ps)))
          (inst_fits d (trees (Keeps canon) ps) (spec.shared_forms w (trees (Keeps canon) ps)) (all_shared ps) h);
      array = λ t step h. subst Fits (sym (canon-Array w t)) (array-is (spec.shared_form w t) ∙ shared_fits t step (sym (array-is t) ∙ h));
      by_ref = λ t step h. subst Fits (sym (canon-ByRef w t)) h;
      ptr = λ t step h. subst Fits (sym (canon-Ptr w t)) h;
      var = λ n h. subst Fits (sym (canon-Var w n)) h;
      mvar = λ n h. subst Fits (sym (canon-MVar w n)) h;
      missing = λ name value h. subst Fits (sym (canon-Missing w name value)) h;
      odd = λ code h. subst Fits (sym (canon-Odd w code)) h;
    })

    key_canon_fits : (k : Key) → key_fits c k ≡ true → key_fits c (spec.canon w k) ≡ true
    key_canon_fits (Tree t) h = canon_keeps t h
    key_canon_fits (Meth k) h =
        let both = and_parts (nat_lt k.method.0 c.methods && fits c k.owner) (all_fit c k.args) h in
        let front = and_parts (nat_lt k.method.0 c.methods) (fits c k.owner) both.0 in
        both_true (both_true front.0 (canon_keeps k.owner front.1))
        (all_keep (spec.shared_form w) (λ t. shared_fits t (canon_keeps t)) k.args both.1)

pub canonical_fits : (w : Facts) → IsWhole w → (k : Key) → key_fits (counts w) k ≡ true → key_fits (counts w) (spec.canon w k) ≡ true
canonical_fits w whole k h = key_canon_fits (counts w) w (and_parts _ (nat_lt w.canon.0 (counts w).defs) (parts w whole).named).1 k h
