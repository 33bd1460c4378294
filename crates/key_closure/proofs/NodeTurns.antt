-- One turn, over a pool that grows.
use Rattle.std.proofs.Common.{◌≡◌, ℕ, ◌+◌, Bool, true, ◌&&◌, nat_lt, List, [], ◌∷◌, length, Some, slice_get, refl, ap, ap₂, ◌∙◌, sym, subst, arith, add-one}
use Rattle.std.specs.Prelude.{nat_le}
use Rattle.std.specs.List.{list_all}
use Rattle.std.proofs.lemmas.Bool.{and_parts, lt-ltb, ltb-true}
use Rattle.std.proofs.lemmas.List.{length-map}
use Rattle.type_tree.specs.declared.tree.Ty.{Ty}
use Rattle.type_tree.specs.declared.tree.Key.{Key}
use Rattle.type_tree.specs.declared.tree.Key.TheVariants as made
use Rattle.type_pool.specs.declared.key_nodes.KeyNode.{KeyNode}
use Rattle.type_pool.specs.declared.key_nodes.KeyNode.TheVariants.{Tree, Meth}
use Rattle.type_pool.specs.Trees.{Grows}
use Rattle.type_pool.specs.Keys.{key_at, key_below, keys_below}
use Rattle.type_pool.proofs.JobLemmas.{grown_length, at-grown, at_all-grown, below-grown}
use Rattle.key_closure.specs.Closures.{AddsAll, needs_of, Listed}
use Rattle.key_closure.specs.Bounds.{fits, is_within, keys_at}
use Rattle.key_closure.proofs.ListSteps.{all_all}
use Rattle.key_closure.proofs.NodeSteps.{keys_in}

module _ (ts us : List Ty) (g : Grows ts us) where
  pub key-grown : (k : KeyNode) → key_below (length ts) k ≡ true → key_at us k ≡ key_at ts k
  key-grown (Tree id) h = ap made.Tree (at-grown ts us g id (ltb-true id.0 (length ts) h))
  key-grown (Meth o m xs) h =
      let parts = and_parts _ _ h in
      let owner = at-grown ts us g o (ltb-true o.0 (length ts) parts.0) in
      let args = at_all-grown ts us g xs parts.1 in
      λ i. made.Meth (record { owner = owner i; method = m; args = args i })

  pub key_below-grown : (k : KeyNode) → key_below (length ts) k ≡ true → key_below (length us) k ≡ true
  key_below-grown (Tree id) h = more id.0 h
    where
      more : (a : ℕ) → nat_lt a (length ts) ≡ true → nat_lt a (length us) ≡ true
      more a h = let l = grown_length ts us g in let low = ltb-true a (length ts) h in lt-ltb a (length us) (omega arith)
  key_below-grown (Meth o m xs) h =
      let parts = and_parts _ _ h in let l = grown_length ts us g in let low = ltb-true o.0 (length ts) parts.0 in
      rw (lt-ltb o.0 (length us) (omega arith)) (below-grown ts us g xs parts.1)

  pub keys-grown : (ks : List KeyNode) → keys_below (length ts) ks ≡ true → keys_at us ks ≡ keys_at ts ks
  keys-grown [] h = refl
  keys-grown (k ∷ ks) h = let parts = and_parts _ _ h in ap₂ (λ x xs. x ∷ xs) (key-grown k parts.0) (keys-grown ks parts.1)

  pub keys_below-grown : (ks : List KeyNode) → keys_below (length ts) ks ≡ true → keys_below (length us) ks ≡ true
  keys_below-grown [] h = refl
  keys_below-grown (k ∷ ks) h = let parts = and_parts _ _ h in rw (key_below-grown k parts.0) (keys_below-grown ks parts.1)

  module _ (needs : Key → List Key) (root : Key) (turn : ℕ) (old more new : List KeyNode) (taken : KeyNode) (below : keys_below (length ts) old ≡ true) (here : slice_get old turn ≡ Some taken)
      (spells : keys_at us more ≡ needs (key_at ts taken)) (adds : AddsAll (keys_at us old) (keys_at us more) (keys_at us new)) where
    adds_needs : AddsAll (keys_at ts old) (needs_of needs (slice_get (keys_at ts old) turn)) (keys_at us new)
    adds_needs =
        let is : needs_of needs (slice_get (keys_at ts old) turn) ≡ keys_at us more = ap (needs_of needs) (keys_in ts old turn taken here) ∙ sym spells in
        let kept = keys-grown old below in
        subst (λ (x : List Key × List Key). AddsAll x.0 x.1 (keys_at us new)) (λ i. (kept i, sym is i)) adds

    pub next_listed : Listed needs root turn (keys_at ts old) → Listed needs root (turn + 1) (keys_at us new)
    next_listed l = subst (λ (n : ℕ). Listed needs root n (keys_at us new)) (sym (add-one turn)) (keys_at ts old, l, adds_needs)

    pub next_within : (fit test : Bool) → is_within (keys_at ts old) ≡ true → fit ≡ list_all fits (keys_at us more) → test ≡ (nat_le (length new) 4096 && fit) → is_within (keys_at us new) ≡ test
    next_within fit test inside all tested =
        let old_fit : list_all fits (keys_at us old) ≡ true = ap (list_all fits) (keys-grown old below) ∙ (and_parts _ _ inside).1 in
        let new_fit : list_all fits (keys_at us new) ≡ fit = all_all fits (keys_at us old) (keys_at us more) (keys_at us new) adds ∙ (ap (λ b. b && list_all fits (keys_at us more)) old_fit ∙ sym all) in
        ap₂ (λ n b. nat_le n 4096 && b) (length-map new (key_at us)) new_fit ∙ sym tested
