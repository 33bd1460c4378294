-- A tree is among keys over a pool where its number is.
use Rattle.std.proofs.Common.{◌≡◌, ℕ, suc, ◌+◌, ◌<◌, true, false, ◌||◌, nat_eq, inl, inr, List, [], ◌∷◌, ◌++◌, length, Some, slice_get, refl, ap, ap₂, ◌∙◌, sym, arith, length-append, eq-eqb, eqb-true}
use Rattle.std.specs.List.{list_any}
use Rattle.std.proofs.lemmas.Bool.{cases_Bool, and_parts, lt-ltb}
use Rattle.std.proofs.lemmas.Option.{slice_get_within}
use Rattle.type_tree.specs.declared.tree.Ty.{Ty}
use Rattle.type_tree.specs.declared.tree.Key.TheVariants as made
use Rattle.type_tree.specs.contracts.tree.Key as row-of-key
use Rattle.type_tree.specs.SameLaws.{same_from_iff}
use Rattle.type_pool.specs.declared.nodes.Id.{Id}
use Rattle.type_pool.specs.declared.key_nodes.KeyNode.{KeyNode}
use Rattle.type_pool.specs.declared.key_nodes.KeyNode.TheVariants.{Tree}
use Rattle.type_pool.specs.KeySame.{key_is, is_key}
use Rattle.type_pool.specs.KeySame as node
use Rattle.type_pool.specs.Trees.{at, EachOnce, AddsAtMost}
use Rattle.type_pool.specs.Keys.{key_at, key_below, keys_below, NodesOnce}
use Rattle.type_pool.proofs.Gets.{get_grows, get_last, any_at}
use Rattle.type_pool.proofs.KeyLemmas.{one_key}
use Rattle.key_closure.specs.Bounds.{keys_at}
use Rattle.type_subs.specs.Listing.{has, same_key}

module _ (ts : List Ty) (once : EachOnce ts) (n : KeyNode) (inside : key_below (length ts) n ≡ true) where
  one_test : (m : KeyNode) → key_below (length ts) m ≡ true → node.same_key n m ≡ same_key (key_at ts n) (key_at ts m)
  one_test m h = same_from_iff row-of-key.the_row.coded (node.same_key n m) (key_at ts n) (key_at ts m)
      ((λ e. ap (key_at ts) (key_is n m e)), (λ e. is_key n m (one_key ts once n m inside h e)))

  pub any_test : (keys : List KeyNode) → keys_below (length ts) keys ≡ true → list_any (node.same_key n) keys ≡ has (keys_at ts keys) (key_at ts n)
  any_test [] h = refl
  any_test (k ∷ keys) h = let parts = and_parts (key_below (length ts) k) (keys_below (length ts) keys) h in ap₂ ◌||◌ (one_test k parts.0) (any_test keys parts.1)

place_of : (n : KeyNode) (keys : List KeyNode) → list_any (node.same_key n) keys ≡ true → (i : ℕ) × (slice_get keys i ≡ Some n)
place_of n [] h = absurd (cc)
place_of n (k ∷ keys) h = elim (cases_Bool (node.same_key n k)) [
  | inl e ↦ (0, ap (λ (x : KeyNode). Some x) (sym (key_is n k e)))
  | inr e ↦ let later = place_of n keys (sym (ap (λ b. b || list_any (node.same_key n) keys) e) ∙ h) in (suc later.0, later.1)
]

-- a node that is put last where it is new makes a list longer exactly where it was absent
pub put_test : (old new : List KeyNode) (n : KeyNode) (i : ℕ) → NodesOnce new → AddsAtMost old new n → slice_get new i ≡ Some n → nat_eq (length new) (length old) ≡ list_any (node.same_key n) old
put_test old new n i unique adds here = elim adds [
  | inl same ↦
      let there : slice_get old i ≡ Some n = ap (λ (l : List KeyNode). slice_get l i) (sym same) ∙ here in
      eq-eqb (length new) (length old) (ap length same) ∙ sym (any_at (node.same_key n) old i n there (is_key n n refl))
  | inr more ↦ elim (cases_Bool (list_any (node.same_key n) old)) [
    | inl e ↦ absurd (clash more (place_of n old e))
    | inr e ↦ longer more ∙ sym e
  ]
]
  where
    clash : new ≡ old ++ n ∷ [] → (p : (k : ℕ) × (slice_get old k ≡ Some n)) → ⊥
    clash more p =
        let first : slice_get new p.0 ≡ Some n = ap (λ (l : List KeyNode). slice_get l p.0) more ∙ get_grows old (n ∷ []) p.0 n p.1 in
        let last : slice_get new (length old) ≡ Some n = ap (λ (l : List KeyNode). slice_get l (length old)) more ∙ get_last old n in
        let same : p.0 ≡ length old = unique p.0 (length old) n first last in
        let low : p.0 < length old = slice_get_within old p.0 n p.1 in
        omega arith

    longer : new ≡ old ++ n ∷ [] → nat_eq (length new) (length old) ≡ false
    longer more = elim (cases_Bool (nat_eq (length new) (length old))) [
      | inl e ↦ absurd (let same = eqb-true (length new) (length old) e in let l : length new ≡ length old + 1 = ap length more ∙ length-append old (n ∷ []) in omega arith)
      | inr e ↦ e
    ]

-- where the list stays as long, it stays
pub put_stays : (old new : List KeyNode) (n : KeyNode) → AddsAtMost old new n → nat_eq (length new) (length old) ≡ true → new ≡ old
put_stays old new n adds h = elim adds [
  | inl same ↦ same
  | inr more ↦ absurd (let same = eqb-true (length new) (length old) h in let l : length new ≡ length old + 1 = ap length more ∙ length-append old (n ∷ []) in omega arith)
]

pub tree_test : (ts : List Ty) → EachOnce ts → (old new : List KeyNode) (a : Id) (i : ℕ) → NodesOnce new → keys_below (length ts) old ≡ true → a.0 < length ts → AddsAtMost old new (Tree a)
    → slice_get new i ≡ Some (Tree a) → nat_eq (length new) (length old) ≡ has (keys_at ts old) (made.Tree (at ts a))
tree_test ts once old new a i unique below low adds here =
    put_test old new (Tree a) i unique adds here ∙ any_test ts once (Tree a) (lt-ltb a.0 (length ts) low) old below
