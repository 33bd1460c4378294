-- The measures of an answer are those of what is put in, as far as a u64 holds them.
use Rattle.std.proofs.Common.{◌≡◌, ℕ, suc, zero, ◌+◌, min, max, List, [], ◌∷◌, map, sum, refl, ap, ◌∙◌, sym, arith}
use Rattle.std.proofs.lemmas.List.Sums.{sum_by-cons}
use Rattle.type_tree.specs.declared.tree.Ty.{Ty}
use Rattle.type_tree.specs.declared.tree.Ty.TheOpen.{Ty-F}
use Rattle.type_tree.specs.declared.tree.Ty.TheVariants as ty
use Rattle.type_tree.specs.declared.tree.Key.{Key}
use Rattle.type_tree.specs.declared.tree.Key.TheVariants.{Tree, Meth}
use Rattle.type_tree.specs.Measure.{largest, depth, depth_step, depth_of_key, weight, weight_step, weight_of_key}
use Rattle.type_tree.specs.Subst as put
use Rattle.type_tree.specs.SubstMeasure.{held, held_depths, held_weights, measure_at, put_depth, put_depth_step, put_depth_of_key, put_weight, put_weight_step, put_weight_of_key}
use Rattle.type_tree.proofs.Folds.{Known, trees, by_variants, fold-Inst, fold-Array, fold-ByRef, fold-Ptr, fold-Var, fold-MVar, fold-Missing, fold-Odd}

max_held : (m a b c d : ℕ) → min a m ≡ min c m → min b m ≡ min d m → min (max a b) m ≡ min (max c d) m
max_held m a b c d first second = omega arith

sum_held : (m a b c d : ℕ) → min a m ≡ min c m → min b m ≡ min d m → min (a + b) m ≡ min (c + d) m
sum_held m a b c d first second = omega arith

sums_held : (m x y : ℕ) (xs ys : List ℕ) → min x m ≡ min y m → min (sum xs) m ≡ min (sum ys) m → min (sum (x ∷ xs)) m ≡ min (sum (y ∷ ys)) m
sums_held m x y xs ys first rest =
    ap (λ k. min k m) (sum_by-cons (λ n. n) x xs) ∙ sum_held m x (sum xs) y (sum ys) first rest ∙ sym (ap (λ k. min k m) (sum_by-cons (λ n. n) y ys))

next_held : (m a c : ℕ) → min a m ≡ min c m → min (a + 1) m ≡ min (c + 1) m
next_held m a c same = omega arith

held_twice : (m a : ℕ) → min (min a m) m ≡ min a m
held_twice m a = omega arith

-- what stands at n, by its measure
entry_held : (measure : Ty → ℕ) (m : ℕ) (ts : List Ty) (n : ℕ) (otherwise : Ty) → measure otherwise ≡ 1
    → min (measure_at (map (λ t. min (measure t) m) ts) n) m ≡ min (measure (put.entry ts n otherwise)) m
entry_held measure m [] n otherwise one = ap (λ k. min k m) (sym one)
entry_held measure m (t ∷ ts) zero otherwise one = held_twice m (measure t)
entry_held measure m (t ∷ ts) (suc n) otherwise one = entry_held measure m ts n otherwise one

module _ (types methods : List Ty) where
  abbrev exact : Ty → Ty
  exact = put.subst_ty types methods

  abbrev s1 : Ty-F Ty → Ty
  s1 = put.subst_step types methods

  -- depth

  abbrev deep : Ty → ℕ
  deep = put_depth (held_depths types) (held_depths methods)

  abbrev s2 : Ty-F ℕ → ℕ
  s2 = put_depth_step (held_depths types) (held_depths methods)

  abbrev Deep : Ty → Type 0
  Deep t = held (deep t) ≡ held (depth (exact t))

  parts_deep : (ps : List (Known Deep)) → held (largest (map deep (trees Deep ps))) ≡ held (largest (map depth (map exact (trees Deep ps))))
  parts_deep [] = refl
  parts_deep (p ∷ ps) = max_held 18446744073709551615 (deep p.0) (largest (map deep (trees Deep ps))) (depth (exact p.0)) (largest (map depth (map exact (trees Deep ps)))) p.1 (parts_deep ps)

  pub deep_is : (t : Ty) → Deep t
  deep_is = by_variants Deep (record {
    inst = λ d ps. let ts = trees Deep ps in
        ap held (fold-Inst ℕ s2 d ts) ∙ next_held 18446744073709551615 (largest (map deep ts)) (largest (map depth (map exact ts))) (parts_deep ps)
        ∙ sym (ap (λ t. held (depth t)) (fold-Inst Ty s1 d ts) ∙ ap held (fold-Inst ℕ depth_step d (map exact ts)));
    array = λ t h. ap held (fold-Array ℕ s2 t) ∙ next_held 18446744073709551615 (deep t) (depth (exact t)) h
        ∙ sym (ap (λ t. held (depth t)) (fold-Array Ty s1 t) ∙ ap held (fold-Array ℕ depth_step (exact t)));
    by_ref = λ t h. ap held (fold-ByRef ℕ s2 t) ∙ next_held 18446744073709551615 (deep t) (depth (exact t)) h
        ∙ sym (ap (λ t. held (depth t)) (fold-ByRef Ty s1 t) ∙ ap held (fold-ByRef ℕ depth_step (exact t)));
    ptr = λ t h. ap held (fold-Ptr ℕ s2 t) ∙ next_held 18446744073709551615 (deep t) (depth (exact t)) h
        ∙ sym (ap (λ t. held (depth t)) (fold-Ptr Ty s1 t) ∙ ap held (fold-Ptr ℕ depth_step (exact t)));
    var = λ n. ap held (fold-Var ℕ s2 n) ∙ entry_held depth 18446744073709551615 types n (ty.Var n) (fold-Var ℕ depth_step n)
        ∙ sym (ap (λ t. held (depth t)) (fold-Var Ty s1 n));
    mvar = λ n. ap held (fold-MVar ℕ s2 n) ∙ entry_held depth 18446744073709551615 methods n (ty.MVar n) (fold-MVar ℕ depth_step n)
        ∙ sym (ap (λ t. held (depth t)) (fold-MVar Ty s1 n));
    missing = λ name value. ap held (fold-Missing ℕ s2 name value)
        ∙ sym (ap (λ t. held (depth t)) (fold-Missing Ty s1 name value) ∙ ap held (fold-Missing ℕ depth_step name value));
    odd = λ code. ap held (fold-Odd ℕ s2 code)
        ∙ sym (ap (λ t. held (depth t)) (fold-Odd Ty s1 code) ∙ ap held (fold-Odd ℕ depth_step code));
  })

  all_deep : (ts : List Ty) → held (largest (map deep ts)) ≡ held (largest (map depth (map exact ts)))
  all_deep [] = refl
  all_deep (t ∷ ts) = max_held 18446744073709551615 (deep t) (largest (map deep ts)) (depth (exact t)) (largest (map depth (map exact ts))) (deep_is t) (all_deep ts)

  pub key_deep : (k : Key) → held (put_depth_of_key (held_depths types) (held_depths methods) k) ≡ held (depth_of_key (put.subst k types methods))
  key_deep (Tree t) = deep_is t
  key_deep (Meth k) =
      next_held 18446744073709551615 (max (deep k.owner) (largest (map deep k.args))) (max (depth (exact k.owner)) (largest (map depth (map exact k.args))))
      (max_held 18446744073709551615 (deep k.owner) (largest (map deep k.args)) (depth (exact k.owner)) (largest (map depth (map exact k.args))) (deep_is k.owner) (all_deep k.args))

  -- weight

  abbrev heavy : Ty → ℕ
  heavy = put_weight (held_weights types) (held_weights methods)

  abbrev s3 : Ty-F ℕ → ℕ
  s3 = put_weight_step (held_weights types) (held_weights methods)

  abbrev Heavy : Ty → Type 0
  Heavy t = held (heavy t) ≡ held (weight (exact t))

  parts_heavy : (ps : List (Known Heavy)) → held (sum (map heavy (trees Heavy ps))) ≡ held (sum (map weight (map exact (trees Heavy ps))))
  parts_heavy [] = refl
  parts_heavy (p ∷ ps) = sums_held 18446744073709551615 (heavy p.0) (weight (exact p.0)) (map heavy (trees Heavy ps)) (map weight (map exact (trees Heavy ps))) p.1 (parts_heavy ps)

  pub heavy_is : (t : Ty) → Heavy t
  heavy_is = by_variants Heavy (record {
    inst = λ d ps. let ts = trees Heavy ps in
        ap held (fold-Inst ℕ s3 d ts) ∙ next_held 18446744073709551615 (sum (map heavy ts)) (sum (map weight (map exact ts))) (parts_heavy ps)
        ∙ sym (ap (λ t. held (weight t)) (fold-Inst Ty s1 d ts) ∙ ap held (fold-Inst ℕ weight_step d (map exact ts)));
    array = λ t h. ap held (fold-Array ℕ s3 t) ∙ next_held 18446744073709551615 (heavy t) (weight (exact t)) h
        ∙ sym (ap (λ t. held (weight t)) (fold-Array Ty s1 t) ∙ ap held (fold-Array ℕ weight_step (exact t)));
    by_ref = λ t h. ap held (fold-ByRef ℕ s3 t) ∙ next_held 18446744073709551615 (heavy t) (weight (exact t)) h
        ∙ sym (ap (λ t. held (weight t)) (fold-ByRef Ty s1 t) ∙ ap held (fold-ByRef ℕ weight_step (exact t)));
    ptr = λ t h. ap held (fold-Ptr ℕ s3 t) ∙ next_held 18446744073709551615 (heavy t) (weight (exact t)) h
        ∙ sym (ap (λ t. held (weight t)) (fold-Ptr Ty s1 t) ∙ ap held (fold-Ptr ℕ weight_step (exact t)));
    var = λ n. ap held (fold-Var ℕ s3 n) ∙ entry_held weight 18446744073709551615 types n (ty.Var n) (fold-Var ℕ weight_step n)
        ∙ sym (ap (λ t. held (weight t)) (fold-Var Ty s1 n));
    mvar = λ n. ap held (fold-MVar ℕ s3 n) ∙ entry_held weight 18446744073709551615 methods n (ty.MVar n) (fold-MVar ℕ weight_step n)
        ∙ sym (ap (λ t. held (weight t)) (fold-MVar Ty s1 n));
    missing = λ name value. ap held (fold-Missing ℕ s3 name value)
        ∙ sym (ap (λ t. held (weight t)) (fold-Missing Ty s1 name value) ∙ ap held (fold-Missing ℕ weight_step name value));
    odd = λ code. ap held (fold-Odd ℕ s3 code)
        ∙ sym (ap (λ t. held (weight t)) (fold-Odd Ty s1 code) ∙ ap held (fold-Odd ℕ weight_step code));
  })

  all_heavy : (ts : List Ty) → held (sum (map heavy ts)) ≡ held (sum (map weight (map exact ts)))
  all_heavy [] = refl
  all_heavy (t ∷ ts) = sums_held 18446744073709551615 (heavy t) (weight (exact t)) (map heavy ts) (map weight (map exact ts)) (heavy_is t) (all_heavy ts)

  pub key_heavy : (k : Key) → held (put_weight_of_key (held_weights types) (held_weights methods) k) ≡ held (weight_of_key (put.subst k types methods))
  key_heavy (Tree t) = heavy_is t
  key_heavy (Meth k) =
      next_held 18446744073709551615 (heavy k.owner + sum (map heavy k.args)) (weight (exact k.owner) + sum (map weight (map exact k.args)))
      (sum_held 18446744073709551615 (heavy k.owner) (sum (map heavy k.args)) (weight (exact k.owner)) (sum (map weight (map exact k.args))) (heavy_is k.owner) (all_heavy k.args))
