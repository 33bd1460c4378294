-- One level of two types, and the next.
use Rattle.std.proofs.Common.{◌≡◌, ℕ, ◌<◌, Bool, true, false, ◌&&◌, ◌||◌, List, length, Option, Some, None, refl, ap, ap₂, ◌∙◌, sym, subst}
use Rattle.clr_base.specs.declared.ids.DefId.{DefId}
use Rattle.clr_base.specs.declared.ids.NameId.{NameId}
use Rattle.type_tree.specs.declared.tree.Ty.{Ty}
use Rattle.type_tree.specs.declared.tree.Ty.TheOpen.{Ty-F}
use Rattle.type_tree.specs.declared.tree.Ty.TheVariants as ty
use Rattle.type_tree.specs.declared.tree.Ty.TheViews.{out-Ty}
use Rattle.type_tree.specs.declared.tree.Ty.TheFolds.{para-roll-Ty}
use Rattle.type_tree.specs.Kinds.{is_reference}
use Rattle.type_tree.specs.World.{Facts}
use Rattle.type_tree.proofs.Folds.{by_variants}
use Rattle.type_pool.specs.declared.nodes.Id.{Id}
use Rattle.type_pool.specs.Trees.{at, Grows, Spells}
use Rattle.type_pool.proofs.JobLemmas.{at-grown}
use Rattle.type_subs.specs.declared.subs.Step.{Step}
use Rattle.type_subs.specs.declared.subs.Step.TheVariants.{Known, Elements}
use Rattle.type_subs.specs.Levels.{element, element_at}
use Rattle.type_subs.specs.Steps.{fits_by_elements, Names, IsBelow}
use Rattle.type_subs.specs.Subs.{same_tree, array_fits, array_step, is_array_sub, is_sub}
use Rattle.type_subs.specs.Supers.{extends}

abbrev pub fits_where : Facts → Option Ty → Option Ty → Bool
fits_where w None o = false
fits_where w (Some e) None = false
fits_where w (Some e) (Some f) = fits_by_elements w e f

array_by : (w : Facts) (e : Ty) (o : Ty-F Ty) → array_fits w (e, is_array_sub w e) o ≡ fits_where w (Some e) (element_at o)
array_by w e (Ty-F.Inst d parts) = refl
array_by w e (Ty-F.Array part) = refl
array_by w e (Ty-F.ByRef part) = refl
array_by w e (Ty-F.Ptr part) = refl
array_by w e (Ty-F.Var n) = refl
array_by w e (Ty-F.MVar n) = refl
array_by w e (Ty-F.Missing name value) = refl
array_by w e (Ty-F.Odd code) = refl

module _ (w : Facts) where
  pub sub-Array : (e u : Ty) → is_array_sub w (ty.Array e) u ≡ array_fits w (e, is_array_sub w e) (out-Ty u)
  unfolding is_array_sub
  sub-Array e u = ap (λ f. f u) (ap (is_array_sub w) (sym (ty.rolls-Array e)) ∙ para-roll-Ty (Ty → Bool) (array_step w) (Ty-F.Array e))

  sub-Inst : (d : DefId) (ts : List Ty) (u : Ty) → is_array_sub w (ty.Inst d ts) u ≡ false
  unfolding is_array_sub
  sub-Inst d ts u = ap (λ f. f u) (ap (is_array_sub w) (sym (ty.rolls-Inst d ts)) ∙ para-roll-Ty (Ty → Bool) (array_step w) (Ty-F.Inst d ts))

  sub-ByRef : (t : Ty) (u : Ty) → is_array_sub w (ty.ByRef t) u ≡ false
  unfolding is_array_sub
  sub-ByRef t u = ap (λ f. f u) (ap (is_array_sub w) (sym (ty.rolls-ByRef t)) ∙ para-roll-Ty (Ty → Bool) (array_step w) (Ty-F.ByRef t))

  sub-Ptr : (t : Ty) (u : Ty) → is_array_sub w (ty.Ptr t) u ≡ false
  unfolding is_array_sub
  sub-Ptr t u = ap (λ f. f u) (ap (is_array_sub w) (sym (ty.rolls-Ptr t)) ∙ para-roll-Ty (Ty → Bool) (array_step w) (Ty-F.Ptr t))

  sub-Var : (n : ℕ) (u : Ty) → is_array_sub w (ty.Var n) u ≡ false
  unfolding is_array_sub
  sub-Var n u = ap (λ f. f u) (ap (is_array_sub w) (sym (ty.rolls-Var n)) ∙ para-roll-Ty (Ty → Bool) (array_step w) (Ty-F.Var n))

  sub-MVar : (n : ℕ) (u : Ty) → is_array_sub w (ty.MVar n) u ≡ false
  unfolding is_array_sub
  sub-MVar n u = ap (λ f. f u) (ap (is_array_sub w) (sym (ty.rolls-MVar n)) ∙ para-roll-Ty (Ty → Bool) (array_step w) (Ty-F.MVar n))

  sub-Missing : (name : NameId) (value : Bool) (u : Ty) → is_array_sub w (ty.Missing name value) u ≡ false
  unfolding is_array_sub
  sub-Missing name value u = ap (λ f. f u) (ap (is_array_sub w) (sym (ty.rolls-Missing name value)) ∙ para-roll-Ty (Ty → Bool) (array_step w) (Ty-F.Missing name value))

  sub-Odd : (code : ℕ) (u : Ty) → is_array_sub w (ty.Odd code) u ≡ false
  unfolding is_array_sub
  sub-Odd code u = ap (λ f. f u) (ap (is_array_sub w) (sym (ty.rolls-Odd code)) ∙ para-roll-Ty (Ty → Bool) (array_step w) (Ty-F.Odd code))

  abbrev ByElements : Ty → Type 0
  ByElements t = (u : Ty) → is_array_sub w t u ≡ fits_where w (element t) (element u)

  other : (t u : Ty) (o : Ty-F Ty) → is_array_sub w t u ≡ false → out-Ty t ≡ o → element_at o ≡ None → is_array_sub w t u ≡ fits_where w (element t) (element u)
  other t u o h is none = h ∙ sym (ap (λ e. fits_where w e (element u)) (ap element_at is ∙ none))

  -- two types as arrays, by their elements
  pub by_elements : (t : Ty) → ByElements t
  by_elements = by_variants ByElements (record {
    inst = λ d ps u. other _ u _ (sub-Inst d _ u) (ty.outs-Inst d _) refl;
    array = λ e h u. sub-Array e u ∙ (array_by w e (out-Ty u) ∙ sym (ap (λ o. fits_where w (element_at o) (element u)) (ty.outs-Array e)));
    by_ref = λ t h u. other (ty.ByRef t) u _ (sub-ByRef t u) (ty.outs-ByRef t) refl;
    ptr = λ t h u. other (ty.Ptr t) u _ (sub-Ptr t u) (ty.outs-Ptr t) refl;
    var = λ n u. other (ty.Var n) u _ (sub-Var n u) (ty.outs-Var n) refl;
    mvar = λ n u. other (ty.MVar n) u _ (sub-MVar n u) (ty.outs-MVar n) refl;
    missing = λ name value u. other (ty.Missing name value) u _ (sub-Missing name value u) (ty.outs-Missing name value) refl;
    odd = λ code u. other (ty.Odd code) u _ (sub-Odd code u) (ty.outs-Odd code) refl;
  })

  pub arrays_law : (e f : Ty) → is_sub w (ty.Array e) (ty.Array f) ≡ (extends w (ty.Array e) (ty.Array f) || (same_tree e f || (is_reference w e && is_reference w f && is_sub w e f)))
  arrays_law e f = ap (λ b. extends w (ty.Array e) (ty.Array f) || b) (sub-Array e (ty.Array f) ∙ ap (array_fits w (e, is_array_sub w e)) (ty.outs-Array f))

  module _ (e f : Ty) where
    pub fits_same : same_tree e f ≡ true → true ≡ fits_by_elements w e f
    fits_same h = sym (ap (λ b. b || (is_reference w e && is_reference w f && is_sub w e f)) h)

    pub fits_other : (both : Bool) → same_tree e f ≡ false → (is_reference w e && is_reference w f) ≡ both → fits_by_elements w e f ≡ (both && is_sub w e f)
    fits_other both h r = ap₂ (λ b c. b || (c && is_sub w e f)) h r

pub names_below : (a b e f : Id) (s : Step) → Names e f s → e.0 < a.0 → f.0 < b.0 → IsBelow a b s
names_below a b e f (Known is) n p q = tt
names_below a b e f (Elements x y) n p q = (subst (λ (z : Id). z.0 < a.0) (sym n.0) p, subst (λ (z : Id). z.0 < b.0) (sym n.1) q)

-- one turn of the walk down
module _ (w : Facts) (ts us : List Ty) (g : Grows ts us) (a b : Id) (p : a.0 < length ts) (q : b.0 < length ts) (r goal : Bool) (ext : r ≡ extends w (at us a) (at us b))
    (same : is_sub w (at ts a) (at ts b) ≡ goal) where
  ext_is : r ≡ extends w (at ts a) (at ts b)
  ext_is = ext ∙ ap₂ (extends w) (at-grown ts us g a p) (at-grown ts us g b q)

  pub found_above : r ≡ true → true ≡ goal
  found_above h = sym (ap (λ c. c || is_array_sub w (at ts a) (at ts b)) (sym ext_is ∙ h)) ∙ same

  module _ (none : r ≡ false) (vs : List Ty) (h : Grows ts vs) where
    array_is : is_array_sub w (at vs a) (at vs b) ≡ goal
    array_is = ap₂ (is_array_sub w) (at-grown ts vs h a p) (at-grown ts vs h b q) ∙ (sym (ap (λ c. c || is_array_sub w (at ts a) (at ts b)) (sym ext_is ∙ none)) ∙ same)

    pub known_here : (is : Bool) → is ≡ is_array_sub w (at vs a) (at vs b) → is ≡ goal
    known_here is k = k ∙ array_is

    pub descends : (e f : Id) → e.0 < length ts → f.0 < length ts → is_array_sub w (at vs a) (at vs b) ≡ is_sub w (at vs e) (at vs f) → is_sub w (at ts e) (at ts f) ≡ goal
    descends e f le lf k = sym (ap₂ (is_sub w) (at-grown ts vs h e le) (at-grown ts vs h f lf)) ∙ (sym k ∙ array_is)

-- trees that were put into a pool
pub sub_over : (w : Facts) (ts us : List Ty) → Grows ts us → (a b : Id) (t u : Ty) (found : Bool) → Spells ts a t → Spells us b u → found ≡ is_sub w (at us a) (at us b) → found ≡ is_sub w t u
sub_over w ts us g a b t u found one two is = is ∙ ap₂ (is_sub w) (at-grown ts us g a one.within ∙ one.is) two.is
