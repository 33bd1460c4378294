-- The parent of a definition of a world is one of the world.
use Rattle.std.proofs.Common.{◌≡◌, ℕ, ◌<◌, ◌≤◌, ◌+◌, true, Option, None, Some, length, refl, ap, ◌∙◌, sym, arith}
use Rattle.std.proofs.lemmas.Bool.{and_parts, ltb-true, leb-true}
use Rattle.type_tree.specs.declared.counts.Counts.{Counts}
use Rattle.type_tree.specs.declared.definition.Def.{Def}
use Rattle.type_tree.specs.declared.tree.Ty.{Ty}
use Rattle.type_tree.specs.declared.tree.Ty.TheOpen.{Ty-F}
use Rattle.type_tree.specs.declared.tree.Ty.TheVariants as ty
use Rattle.type_tree.specs.Fits.{fits, fits_step, parent_fits, def_fits}
use Rattle.type_tree.specs.Kinds.{head, head_at, head_of}
use Rattle.type_tree.specs.World.{Facts}
use Rattle.type_tree.specs.Whole.{counts}
use Rattle.type_tree.proofs.Folds.{trees, by_variants, fold-Inst}
use Rattle.type_tree.proofs.Trees.{out-Inst}
use Rattle.slot_chains.proofs.OwnerLemmas.{no-head}
use Rattle.std.specs.Prelude.{Bool}

abbrev Headed : Counts → Ty → Type 0
Headed c t = (p : ℕ) → head t ≡ Some p → fits c t ≡ true → p < c.defs

headed : (c : Counts) (t : Ty) → Headed c t
headed c = by_variants (Headed c) (record {
  inst = λ d ps p e h. (let s : Some d.0 ≡ Some p = sym (ap head_at (out-Inst d (trees (Headed c) ps))) ∙ e in let same : d.0 ≡ p = cc in
      let parts = and_parts _ _ (sym (fold-Inst Bool (fits_step c) d (trees (Headed c) ps)) ∙ h) in
      let low = ltb-true d.0 c.defs parts.0 in omega (arith, low, same));
  array = λ t h p e f. absurd (no-head (ty.Array t) (Ty-F.Array t) p (ty.rolls-Array t) refl e);
  by_ref = λ t h p e f. absurd (no-head (ty.ByRef t) (Ty-F.ByRef t) p (ty.rolls-ByRef t) refl e);
  ptr = λ t h p e f. absurd (no-head (ty.Ptr t) (Ty-F.Ptr t) p (ty.rolls-Ptr t) refl e);
  var = λ n p e f. absurd (no-head (ty.Var n) (Ty-F.Var n) p (ty.rolls-Var n) refl e);
  mvar = λ n p e f. absurd (no-head (ty.MVar n) (Ty-F.MVar n) p (ty.rolls-MVar n) refl e);
  missing = λ name value p e f. absurd (no-head (ty.Missing name value) (Ty-F.Missing name value) p (ty.rolls-Missing name value) refl e);
  odd = λ code p e f. absurd (no-head (ty.Odd code) (Ty-F.Odd code) p (ty.rolls-Odd code) refl e);
})

parent-headed : (c : Counts) (o : Option Ty) (p : ℕ) → head_of o ≡ Some p → parent_fits c o ≡ true → p < c.defs
parent-headed c None p e h = absurd (cc)
parent-headed c (Some t) p e h = headed c t p e h

pub parent_exists : (w : Facts) (d : Def) (p : ℕ) → def_fits (counts w) d ≡ true → head_of d.parent ≡ Some p → p < length w.defs
parent_exists w d p h e =
    let a = (and_parts _ _ h).0 in
    let b = (and_parts _ _ a).0 in
    let f = (and_parts _ _ b).0 in
    parent-headed (counts w) d.parent p e (and_parts _ _ f).1

pub methods_within : (w : Facts) (d : Def) → def_fits (counts w) d ≡ true → d.first_method + d.methods ≤ length w.methods
methods_within w d h =
    let a = (and_parts _ _ h).0 in
    let b = (and_parts _ _ a).0 in
    let f = (and_parts _ _ b).0 in
    let p = (and_parts _ _ f).0 in
    let m = (and_parts _ _ p).1 in
    leb-true (d.first_method + d.methods) (length w.methods) (and_parts _ _ m).1
