-- Laws of substitution.
use Rattle.std.proofs.Common.{◌≡◌, ℕ, suc, zero, List, [], ◌∷◌, ◌++◌, length, drop, map, refl, ap, ap₂, ◌∙◌, sym}
use Rattle.type_tree.specs.declared.tree.Ty.{Ty}
use Rattle.type_tree.specs.declared.tree.Ty.TheOpen.{Ty-F}
use Rattle.type_tree.specs.declared.tree.Ty.TheVariants as ty
use Rattle.type_tree.specs.declared.tree.Key.{Key}
use Rattle.type_tree.specs.declared.tree.Key.TheVariants.{Tree, Meth}
use Rattle.type_tree.specs.Subst as spec
use Rattle.type_tree.proofs.Folds.{Known, trees, by_variants, fold-Inst, fold-Array, fold-ByRef, fold-Ptr, fold-Var, fold-MVar, fold-Missing, fold-Odd}

-- nothing put in

abbrev put_nothing : Ty → Ty
put_nothing = spec.subst_ty [] []

abbrev Kept : Ty → Type 0
Kept t = put_nothing t ≡ t

kept_all : (ps : List (Known Kept)) → map put_nothing (trees Kept ps) ≡ trees Kept ps
kept_all [] = refl
kept_all (p ∷ ps) = ap₂ ◌∷◌ p.1 (kept_all ps)

pub kept : (t : Ty) → put_nothing t ≡ t
kept = by_variants Kept (record {
  inst = λ d ps. fold-Inst Ty (spec.subst_step [] []) d (trees Kept ps) ∙ ap (ty.Inst d) (kept_all ps);
  array = λ t h. fold-Array Ty (spec.subst_step [] []) t ∙ ap ty.Array h;
  by_ref = λ t h. fold-ByRef Ty (spec.subst_step [] []) t ∙ ap ty.ByRef h;
  ptr = λ t h. fold-Ptr Ty (spec.subst_step [] []) t ∙ ap ty.Ptr h;
  var = fold-Var Ty (spec.subst_step [] []);
  mvar = fold-MVar Ty (spec.subst_step [] []);
  missing = fold-Missing Ty (spec.subst_step [] []);
  odd = fold-Odd Ty (spec.subst_step [] []);
})

all_kept : (ts : List Ty) → map put_nothing ts ≡ ts
all_kept [] = refl
all_kept (t ∷ ts) = ap₂ ◌∷◌ (kept t) (all_kept ts)

pub key_kept : (k : Key) → spec.subst k [] [] ≡ k
key_kept (Tree t) = ap Tree (kept t)
key_kept (Meth k) = λ i. Meth (record { owner = kept k.owner i; method = k.method; args = all_kept k.args i })

-- two substitutions, one after the other

drop-none : (n : ℕ) → drop {A = Ty} n [] ≡ []
drop-none zero = refl
drop-none (suc n) = refl

-- what stands at n after both, where `last` stands there past the first list
entry-composed : (f : Ty → Ty) (ts us : List Ty) (n : ℕ) (otherwise last : Ty) → f otherwise ≡ spec.entry us n last
    → f (spec.entry ts n otherwise) ≡ spec.entry (spec.composed f ts us) n last
entry-composed f [] us n otherwise last h = h
entry-composed f (t ∷ ts) us zero otherwise last h = refl
entry-composed f (t ∷ ts) [] (suc n) otherwise last h =
    entry-composed f ts [] n otherwise last h ∙ ap (λ rest. spec.entry (map f ts ++ rest) n last) (drop-none (length ts))
entry-composed f (t ∷ ts) (u ∷ us) (suc n) otherwise last h = entry-composed f ts us n otherwise last h

module _ (types methods next_types next_methods : List Ty) where
  abbrev first : Ty → Ty
  first = spec.subst_ty types methods

  abbrev next : Ty → Ty
  next = spec.subst_ty next_types next_methods

  abbrev both_types : List Ty
  both_types = spec.composed next types next_types

  abbrev both_methods : List Ty
  both_methods = spec.composed next methods next_methods

  abbrev both : Ty → Ty
  both = spec.subst_ty both_types both_methods

  abbrev Composes : Ty → Type 0
  Composes t = next (first t) ≡ both t

  abbrev s1 : Ty-F Ty → Ty
  s1 = spec.subst_step types methods

  abbrev s2 : Ty-F Ty → Ty
  s2 = spec.subst_step next_types next_methods

  abbrev s3 : Ty-F Ty → Ty
  s3 = spec.subst_step both_types both_methods

  parts_compose : (ps : List (Known Composes)) → map next (map first (trees Composes ps)) ≡ map both (trees Composes ps)
  parts_compose [] = refl
  parts_compose (p ∷ ps) = ap₂ ◌∷◌ p.1 (parts_compose ps)

  pub composes : (t : Ty) → next (first t) ≡ both t
  composes = by_variants Composes (record {
    inst = λ d ps. let ts = trees Composes ps in
        ap next (fold-Inst Ty s1 d ts) ∙ fold-Inst Ty s2 d (map first ts) ∙ ap (ty.Inst d) (parts_compose ps) ∙ sym (fold-Inst Ty s3 d ts);
    array = λ t h. ap next (fold-Array Ty s1 t) ∙ fold-Array Ty s2 (first t) ∙ ap ty.Array h ∙ sym (fold-Array Ty s3 t);
    by_ref = λ t h. ap next (fold-ByRef Ty s1 t) ∙ fold-ByRef Ty s2 (first t) ∙ ap ty.ByRef h ∙ sym (fold-ByRef Ty s3 t);
    ptr = λ t h. ap next (fold-Ptr Ty s1 t) ∙ fold-Ptr Ty s2 (first t) ∙ ap ty.Ptr h ∙ sym (fold-Ptr Ty s3 t);
    var = λ n. ap next (fold-Var Ty s1 n)
        ∙ entry-composed next types next_types n (ty.Var n) (ty.Var n) (fold-Var Ty s2 n) ∙ sym (fold-Var Ty s3 n);
    mvar = λ n. ap next (fold-MVar Ty s1 n)
        ∙ entry-composed next methods next_methods n (ty.MVar n) (ty.MVar n) (fold-MVar Ty s2 n) ∙ sym (fold-MVar Ty s3 n);
    missing = λ name value. ap next (fold-Missing Ty s1 name value) ∙ fold-Missing Ty s2 name value ∙ sym (fold-Missing Ty s3 name value);
    odd = λ code. ap next (fold-Odd Ty s1 code) ∙ fold-Odd Ty s2 code ∙ sym (fold-Odd Ty s3 code);
  })

  all_compose : (ts : List Ty) → map next (map first ts) ≡ map both ts
  all_compose [] = refl
  all_compose (t ∷ ts) = ap₂ ◌∷◌ (composes t) (all_compose ts)

  pub key_composes : (k : Key) → spec.subst (spec.subst k types methods) next_types next_methods ≡ spec.subst k both_types both_methods
  key_composes (Tree t) = ap Tree (composes t)
  key_composes (Meth k) = λ i. Meth (record { owner = composes k.owner i; method = k.method; args = all_compose k.args i })
