-- What is found of the nodes, and of the definitions.
use Rattle.std.proofs.Common.{◌≡◌, ℕ, zero, suc, ◌+◌, ◌≤◌, ◌<◌, ◌↔◌, IsTrue, Bool, true, false, ◌||◌, inl, inr, List, [], ◌∷◌, ◌++◌, length, map, get_or, Option, Some, None, slice_get, refl, ap, ◌∙◌, sym, subst, arith}
use Rattle.std.specs.List.{list_any, range_with_len, Contains}
use Rattle.std.specs.Option.{option_map}
use Rattle.std.proofs.Math.ListN.{get_or-eq_default}
use Rattle.std.proofs.lemmas.Bool.{cases_lt}
use Rattle.std.proofs.lemmas.List.{length-map}
use Rattle.std.proofs.lemmas.List.FromFn.{get_or-range_with_len, length-range_with_len}
use Rattle.std.proofs.lemmas.List.Folds.{list_any_at, list_any-append}
use Rattle.std.proofs.lemmas.Option.{slice_get_within, slice_get-get_or, slice_get-map}
use Rattle.closed_walks.specs.Walks.{GoesOn, AreFound}
use Rattle.closed_walks.proofs.Lists.{any_has}
use Rattle.closed_walks.proofs.Whole.{nowhere}
use Rattle.type_tree.specs.declared.definition.Def.{Def}
use Rattle.type_tree.specs.World.{Facts}
use Rattle.type_expands.specs.declared.formals.Span.{Span}
use Rattle.type_expands.specs.Formals.{spans, spans_from, formal_graph}
use Rattle.type_expands.specs.Expands.{Expands, AreExpanding, found_at, any_found}

-- a number of the range
in_range : (n k : ℕ) → Contains (range_with_len 0 n) k → k < n
in_range n k h =
    let i = h.1 in
    let l = length-range_with_len 0 n in
    let lt : h.0 < n = omega arith in
    let e : get_or (range_with_len 0 n) h.0 k ≡ 0 + h.0 = get_or-range_with_len 0 n h.0 k lt in
    let f = h.2 in
    omega arith

pub any_in : (found : List Bool) (s : Span) (k : ℕ) → k < s.count → found_at found (s.first + k) ≡ true → any_found found s ≡ true
any_in found s k lt is =
    let l = length-range_with_len 0 s.count in
    let e : get_or (range_with_len 0 s.count) k 0 ≡ k = get_or-range_with_len 0 s.count k 0 lt ∙ (let z : 0 + k ≡ k = omega arith in z) in
    list_any_at (λ n. found_at found (s.first + n)) (range_with_len 0 s.count) k 0 (omega arith) (ap (λ n. found_at found (s.first + n)) e ∙ is)

-- one node more
range_more : (a n : ℕ) → range_with_len a (suc n) ≡ range_with_len a n ++ (a + n) ∷ []
range_more a zero = let z : a ≡ a + 0 = omega arith in ap (λ b. b ∷ []) z
range_more a (suc n) =
    let z : a + 1 + n ≡ a + suc n = omega arith in
    ap (λ l. a ∷ l) (range_more (a + 1) n ∙ ap (λ b. range_with_len (a + 1) n ++ b ∷ []) z)

pub any_more : (found : List Bool) (s : Span) (n : ℕ) → list_any (λ k. found_at found (s.first + k)) (range_with_len 0 n) ≡ false → found_at found (s.first + n) ≡ false
    → list_any (λ k. found_at found (s.first + k)) (range_with_len 0 (n + 1)) ≡ false
any_more found s n none here =
    ap (list_any (λ k. found_at found (s.first + k))) ((let e : n + 1 ≡ suc n = omega arith in ap (range_with_len 0) e) ∙ range_more 0 n)
    ∙ list_any-append (λ k. found_at found (s.first + k)) (range_with_len 0 n) ((0 + n) ∷ [])
    ∙ ap (λ b. b || list_any (λ k. found_at found (s.first + k)) ((0 + n) ∷ [])) none
    ∙ (let z : 0 + n ≡ n = omega arith in ap (λ k. found_at found (s.first + k) || false) z ∙ ap (λ b. b || false) here)

spans_long : (first : ℕ) (ds : List Def) → length (spans_from first ds) ≡ length ds
spans_long first [] = refl
spans_long first (d ∷ ds) = ap suc (spans_long (first + length d.formals) ds)

-- where what is found of the nodes is so, what is found of a definition is so
module _ (w : Facts) (found : List Bool) (are : AreFound (formal_graph w) found) where
  node_found : (n : ℕ) → found_at found n ≡ true → GoesOn (formal_graph w) n
  node_found n is = elim (cases_lt n (length found)) [
    | inl lt ↦ (are.each n true (slice_get-get_or found n false lt ∙ ap Some is)).0 refl
    | inr ge ↦ absurd (let f : false ≡ true = sym (get_or-eq_default found false ge) ∙ is in cc)
  ]

  node_shown : (n : ℕ) → GoesOn (formal_graph w) n → found_at found n ≡ true
  node_shown n on = elim (cases_lt n (length found)) [
    | inl lt ↦ (are.each n (found_at found n) (slice_get-get_or found n false lt)).1 on
    | inr ge ↦ absurd (let l = are.as_long in nowhere (formal_graph w) n (omega arith) on)
  ]

  def_answer : (d : ℕ) (b : Bool) (s : Option Span) → slice_get (spans w) d ≡ s → option_map (any_found found) s ≡ Some b → IsTrue b ↔ Expands w d
  def_answer d b None is e = absurd (cc)
  def_answer d b (Some s) is e =
      let same : any_found found s ≡ b = cc in (
        λ t.
            let r = any_has (λ n. found_at found (s.first + n)) (range_with_len 0 s.count) (same ∙ t) in
            record { span = s; is = is; place = r.0; within = in_range s.count r.0 r.1; goes_on = node_found (s.first + r.0) r.2 },
        λ x.
            let one : Some x.span ≡ Some s = sym x.is ∙ is in
            let alike : x.span ≡ s = cc in
            sym same ∙ any_in found s x.place (subst (λ (v : Span). x.place < v.count) alike x.within) (node_shown (s.first + x.place) (subst (λ (v : Span). GoesOn (formal_graph w) (v.first + x.place)) alike x.goes_on)),
      )

  pub are_expanding : AreExpanding w (map (any_found found) (spans w))
  are_expanding = record {
    as_long = length-map (spans w) (any_found found) ∙ spans_long 0 w.defs;
    each = λ d b is. def_answer d b (slice_get (spans w) d) refl (sym (slice_get-map (any_found found) (spans w) d) ∙ is);
  }

-- what is no definition doesn't expand
pub no_definition : (w : Facts) (d : ℕ) → length w.defs ≤ d → Expands w d → ⊥
no_definition w d past x =
    let lt = slice_get_within (spans w) d x.span x.is in
    let l = spans_long 0 w.defs in
    omega arith

pub answer_is : (w : Facts) (found : List Bool) (d : ℕ) → AreExpanding w found → IsTrue (found_at found d) ↔ Expands w d
answer_is w found d are = elim (cases_lt d (length found)) [
  | inl lt ↦ are.each d (found_at found d) (slice_get-get_or found d false lt)
  | inr ge ↦ (
    λ t. absurd (let f : false ≡ true = sym (get_or-eq_default found false ge) ∙ t in cc),
    λ x. absurd (let l = are.as_long in no_definition w d (omega arith) x),
  )
]
