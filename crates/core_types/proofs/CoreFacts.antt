-- The rows of the core's methods.
use Rattle.std.proofs.Common.{◌≡◌, ℕ, zero, suc, ◌+◌, ◌<◌, ◌≤◌, Bool, true, List, [], ◌∷◌, length, map, get_or, nat_le, refl, ap, ◌∙◌, arith}
use Rattle.std.specs.Borrow.{Bor}
use Rattle.std.specs.List.{list_all}
use Rattle.std.proofs.lemmas.Bool.{leb-true, and_parts}
use Rattle.std.proofs.lemmas.List.FromFn.{sum_by-map-range_with_len_more}
use Rattle.core_types.specs.declared.core_table.CoreMethod.{CoreMethod}
use Rattle.core_types.specs.declared.core_table.TheConstants.{CORE_METHODS}
use Rattle.core_types.specs.CoreLibrary.{methods_before}
use Rattle.core_types.specs.CoreTable.{method_rows}

behind : {X : Type 0} (xs : List (Bor X)) (i : ℕ) (d : Bor X) (e : X) → i < length xs → (get_or xs i d).now ≡ get_or (map (λ x. x.now) xs) i e
behind [] i d e within = absurd (omega arith)
behind (x ∷ xs) zero d e within = refl
behind (x ∷ xs) (suc i) d e within = behind xs i d e (omega arith)

-- what stands behind the references of a constant list
pub now_at : {X : Type 0} (xs : List (Bor X)) (values : List X) (i : ℕ) (d : Bor X) (e : X) → map (λ x. x.now) xs ≡ values → i < length xs
    → (get_or xs i d).now ≡ get_or values i e
now_at xs values i d e same within = behind xs i d e within ∙ ap (λ l. get_or l i e) same

-- what all items pass, and the default too
all_at : {X : Type 0} (p : X → Bool) (xs : List X) (i : ℕ) (d : X) → list_all p xs ≡ true → p d ≡ true → p (get_or xs i d) ≡ true
all_at p [] i d all last = last
all_at p (x ∷ xs) zero d all last = (and_parts (p x) (list_all p xs) all).0
all_at p (x ∷ xs) (suc i) d all last = all_at p xs i d (and_parts (p x) (list_all p xs) all).1 last

-- a definition has at most 12 methods
pub few : (k : ℕ) → length (method_rows k) ≤ 12
unfolding method_rows
few k = leb-true _ _ (all_at (λ (rows : List CoreMethod). nat_le (length rows) 12) (map (λ m. m.now) CORE_METHODS) k [] refl refl)

pub before_more : (k : ℕ) → methods_before (k + 1) ≡ methods_before k + length (method_rows k)
unfolding methods_before
before_more k = let e : 0 + k ≡ k = omega arith in sum_by-map-range_with_len_more length method_rows 0 k k e
