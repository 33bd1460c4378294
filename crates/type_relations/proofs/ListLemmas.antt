-- Lists of trees of a pool that grow at their end.
use Rattle.std.proofs.Common.{◌≡◌, ℕ, suc, ◌+◌, ◌<◌, ◌≤◌, true, nat_lt, List, [], ◌∷◌, ◌++◌, length, map, drop, drop-cons, get_or, refl, ap, ap₂, ◌∙◌, sym, append_assoc, append-nil, add-one}
use Rattle.std.proofs.Math.ListN.{drop_of_length-le}
use Rattle.std.proofs.lemmas.Bool.{and_parts}
use Rattle.std.proofs.lemmas.List.{map-append}
use Rattle.std.proofs.lemmas.List.Folds.{list_all-append}
use Rattle.type_tree.specs.declared.tree.Ty.{Ty}
use Rattle.type_tree.specs.declared.tree.Key.{Key}
use Rattle.type_tree.specs.declared.tree.Key.TheVariants as made
use Rattle.type_tree.specs.Subst.{subst_ty}
use Rattle.type_pool.specs.declared.nodes.Id.{Id}
use Rattle.type_pool.specs.declared.key_nodes.KeyNode.{KeyNode}
use Rattle.type_pool.specs.declared.key_nodes.KeyNode.TheVariants.{Tree}
use Rattle.type_pool.specs.Trees.{at, at_all, ids_below, Grows, Spells}
use Rattle.type_pool.specs.Keys.{key_at, key_below, keys_below, SpellsKey}
use Rattle.type_pool.specs.Jobs.{SpellAll}
use Rattle.type_pool.proofs.JobLemmas.{at_all-grown, below-grown, below-one}
use Rattle.key_closure.specs.Bounds.{keys_at}
use Rattle.key_closure.proofs.NodeTurns.{keys-grown, keys_below-grown}
use Rattle.type_relations.specs.Relations.{put_in}

pub push_spells : (ts us : List Ty) (ids : List Id) (r : Id) (vs : List Ty) (t : Ty) → Grows ts us → SpellAll ts ids vs → Spells us r t → SpellAll us (ids ++ r ∷ []) (vs ++ t ∷ [])
push_spells ts us ids r vs t g all one = record {
  within = below-one (length us) ids r (below-grown ts us g ids all.within) one.within;
  are = map-append (at us) ids (r ∷ []) ∙ ap₂ (λ a b. a ++ b ∷ []) (at_all-grown ts us g ids all.within ∙ all.are) one.is;
}

pub spell_themselves : (ts : List Ty) (ids : List Id) → ids_below (length ts) ids ≡ true → SpellAll ts ids (at_all ts ids)
spell_themselves ts ids h = record { within = h; are = refl }

-- a tree that is put in over a pool that has grown
pub put_spells : (ts mid us : List Ty) (args : List Id) (opened r : Id) (t : Ty) → Grows ts mid → ids_below (length ts) args ≡ true → Spells mid opened t
    → Spells us r (subst_ty (at_all mid args) [] (at mid opened)) → Spells us r (subst_ty (at_all ts args) [] t)
put_spells ts mid us args opened r t g below whole put = record {
  within = put.within;
  is = put.is ∙ ap₂ (λ (a : List Ty) (x : Ty). subst_ty a [] x) (at_all-grown ts mid g args below) whole.is;
}

pub all_step : (args : List Ty) (done : List Ty) (trees : List Ty) (i : ℕ) (t : Ty) → i < length trees → t ≡ get_or trees i t
    → (done ++ subst_ty args [] t ∷ []) ++ put_in args (drop (i + 1) trees) ≡ done ++ put_in args (drop i trees)
all_step args done trees i t low is =
    let front : drop i trees ≡ t ∷ drop (i + 1) trees = rw add-one (drop-cons trees i t low ∙ ap (λ (x : Ty). x ∷ drop (suc i) trees) (sym is)) in
    append_assoc done (subst_ty args [] t ∷ []) (put_in args (drop (i + 1) trees)) ∙ ap (λ l. done ++ put_in args l) (sym front)

-- trees as keys
abbrev pub trees : List Id → List KeyNode
trees ids = map Tree ids

pub trees_within : (n : ℕ) (ids : List Id) → ids_below n ids ≡ true → keys_below n (trees ids) ≡ true
trees_within n [] h = refl
trees_within n (a ∷ ids) h = let parts = and_parts (nat_lt a.0 n) (ids_below n ids) h in rw parts.0 (trees_within n ids parts.1)

pub trees_are : (ts : List Ty) (ids : List Id) → keys_at ts (trees ids) ≡ map made.Tree (at_all ts ids)
trees_are ts [] = refl
trees_are ts (a ∷ ids) = ap (λ l. made.Tree (at ts a) ∷ l) (trees_are ts ids)

pub all_trees : (keys : List KeyNode) (ids : List Id) (i : ℕ) → length ids ≤ i → keys ++ trees (drop i ids) ≡ trees ids → keys ≡ trees ids
all_trees keys ids i past h = sym (append-nil keys) ∙ (ap (λ l. keys ++ trees l) (sym (drop_of_length-le ids {i = i} past)) ∙ h)

-- two lists, the second over a pool that has grown
pub join_spells : (ts us : List Ty) (a b : List Id) (xs ys : List Ty) → Grows ts us → SpellAll ts a xs → SpellAll us b ys → SpellAll us (a ++ b) (xs ++ ys)
join_spells ts us a b xs ys g f h = record {
  within = list_all-append (λ x. nat_lt x.0 (length us)) a b ∙ rw (below-grown ts us g a f.within) h.within;
  are = map-append (at us) a b ∙ ap₂ (λ x y. x ++ y) (at_all-grown ts us g a f.within ∙ f.are) h.are;
}

-- one key more
pub keys_with : (ts us : List Ty) (keys : List KeyNode) (k : KeyNode) (xs : List Key) (x : Key) → Grows ts us → keys_below (length us) keys ≡ true → keys_at us keys ≡ xs
    → SpellsKey ts k x → (keys_below (length us) (keys ++ k ∷ []) ≡ true) × (keys_at us (keys ++ k ∷ []) ≡ xs ++ x ∷ [])
keys_with ts us keys k xs x g below are one =
    let low : keys_below (length us) (k ∷ []) ≡ true = keys_below-grown ts us g (k ∷ []) (rw one.within refl) in
    let same : keys_at us (k ∷ []) ≡ x ∷ [] = keys-grown ts us g (k ∷ []) (rw one.within refl) ∙ ap (λ y. y ∷ []) one.is in (
      list_all-append (key_below (length us)) keys (k ∷ []) ∙ rw below low,
      map-append (key_at us) keys (k ∷ []) ∙ ap₂ (λ a b. a ++ b) are same,
    )
