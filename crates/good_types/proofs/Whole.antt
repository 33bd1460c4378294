-- Of the members of the closure of a good key, in a world whose parts fit, parents are there.
use Rattle.std.proofs.Common.{◌≡◌, ℕ, Bool, true, ◌&&◌, nat_lt, List, [], length, map, Some, slice_get, ap, ◌∙◌, sym}
use Rattle.std.specs.List.{list_all}
use Rattle.std.proofs.lemmas.Bool.{and_parts, ltb-true, or_right}
use Rattle.std.proofs.lemmas.Option.{slice_get-get_or}
use Rattle.std.proofs.Math.ListN.{get_or}
use Rattle.clr_base.specs.declared.ids.DefId.{DefId}
use Rattle.type_tree.specs.declared.definition.Def.{Def}
use Rattle.type_tree.specs.declared.tree.Key.{Key}
use Rattle.type_tree.specs.declared.tree.Ty.{Ty}
use Rattle.type_tree.specs.declared.tree.Ty.TheVariants as ty
use Rattle.type_tree.specs.declared.tree.Ty.TheViews.{out-Ty}
use Rattle.type_tree.specs.Fits.{fits_step, parent_fits, fits}
use Rattle.type_tree.specs.Kinds.{head_at}
use Rattle.type_tree.specs.Subst.{subst_ty, subst_step}
use Rattle.type_tree.specs.Whole.{counts, IsWhole}
use Rattle.type_tree.specs.World.{Facts}
use Rattle.type_tree.proofs.Folds.{trees, by_variants, fold-Inst, fold-ByRef, fold-Ptr, fold-Odd}
use Rattle.type_tree.proofs.WholeLemmas.{def_fits_at}
use Rattle.key_closure.specs.Bounds.{IsClosure}
use Rattle.key_closure.specs.Closures.{IsLeast}
use Rattle.key_faults.specs.Shapes.{is_outside_at}
use Rattle.key_verdicts.specs.declared.verdict.Verdict.TheVariants as verdict
use Rattle.def_faults.specs.BadParent as bad_parent
use Rattle.def_faults.specs.NotFound as missing
use Rattle.method_slots.specs.Slots.{is_interface}
use Rattle.type_judge.specs.Judging.{IsJudged}
use Rattle.good_types.specs.Exact.{inst}
use Rattle.good_types.proofs.Faultless.{P, sound, no_outside, no_bad_parent, no_missing_parent, no_parent, implements_one}
use Rattle.good_types.proofs.Lists.{HasDef}
use Rattle.good_types.proofs.Settled.{IsSettled}
use Rattle.good_types.proofs.Sound.{parent_base}

module _ (least : (needs : Key → List Key) (key : Key) (keys : List Key) → IsClosure needs key keys → IsLeast needs key keys)
    (w : Facts) (root : Key) (members : List Key) (judged : IsJudged w root (verdict.Good members)) (whole : IsWhole w) where
  module _ (n : ℕ) (d : Def) (args : List Ty) (c : P w root members judged (inst n args)) (here : slice_get w.defs n ≡ Some d) where
    abbrev HasParent : Ty → Type 0
    HasParent p = d.parent ≡ Some p → HasDef w p

    not_extended : (p : Ty) → d.parent ≡ Some p → bad_parent.may_not_be_extended w p ≡ true → HasDef w p
    not_extended p e h = absurd (no_bad_parent w root members judged n d args c here
        (ap (bad_parent.has_bad_parent_at w (record { 0 = n }) d) e ∙ or_right (is_interface d) (bad_parent.may_not_be_extended w p) h))

    -- a form outside the profile stays one with arguments put in
    stays_outside : (p : Ty) → d.parent ≡ Some p → is_outside_at (out-Ty (subst_ty args [] p)) ≡ true → HasDef w p
    stays_outside p e h = absurd (no_outside w root members judged (subst_ty args [] p) ((sound least w root members judged).based (inst n args) (subst_ty args [] p) c (parent_base w n d args here p e)) h)

    inst_parent : (m : DefId) (ts : List Ty) → HasParent (ty.Inst m ts)
    inst_parent m ts e =
        let fit = def_fits_at w n d whole here in
        let a = (and_parts _ _ fit).0 in let b = (and_parts _ _ a).0 in let f = (and_parts _ _ b).0 in
        let parent : parent_fits (counts w) d.parent ≡ true = (and_parts _ _ f).1 in
        let step : (nat_lt m.0 (length w.defs) && list_all (λ p. p) (map (fits (counts w)) ts)) ≡ true = sym (fold-Inst Bool (fits_step (counts w)) m ts) ∙ (sym (ap (parent_fits (counts w)) e) ∙ parent) in
        let low = ltb-true m.0 (length w.defs) (and_parts (nat_lt m.0 (length w.defs)) (list_all (λ p. p) (map (fits (counts w)) ts)) step).0 in
        record { number = m.0; def = get_or w.defs m.0 d; head = ap head_at (ty.outs-Inst m ts); here = slice_get-get_or w.defs m.0 d low }

    has_parent : (p : Ty) → HasParent p
    has_parent = by_variants HasParent (record {
      inst = λ m ps. inst_parent m (trees HasParent ps);
      array = λ t ih e. not_extended (ty.Array t) e (ap (bad_parent.may_not_be_extended_at w) (ty.outs-Array t));
      by_ref = λ t ih e. stays_outside (ty.ByRef t) e (ap (λ u. is_outside_at (out-Ty u)) (fold-ByRef Ty (subst_step args []) t) ∙ ap is_outside_at (ty.outs-ByRef (subst_ty args [] t)));
      ptr = λ t ih e. stays_outside (ty.Ptr t) e (ap (λ u. is_outside_at (out-Ty u)) (fold-Ptr Ty (subst_step args []) t) ∙ ap is_outside_at (ty.outs-Ptr (subst_ty args [] t)));
      var = λ k e. not_extended (ty.Var k) e (ap (bad_parent.may_not_be_extended_at w) (ty.outs-Var k));
      mvar = λ k e. not_extended (ty.MVar k) e (ap (bad_parent.may_not_be_extended_at w) (ty.outs-MVar k));
      missing = λ name value e. absurd (no_missing_parent w root members judged n d args c here (ap missing.is_missing_parent e ∙ ap missing.is_missing_at (ty.outs-Missing name value)));
      odd = λ code e. stays_outside (ty.Odd code) e (ap (λ u. is_outside_at (out-Ty u)) (fold-Odd Ty (subst_step args []) code) ∙ ap is_outside_at (ty.outs-Odd code));
    })

  pub settled : IsSettled w (P w root members judged)
  settled = record {
    sound = sound least w root members judged;
    extended = λ n d args p c here e. has_parent n d args c here p e;
    rootless = λ n d args c here face. no_parent w root members judged n d args c here face;
    implements = λ n d args i c here there. implements_one w root members judged n d args c here i there;
  }
