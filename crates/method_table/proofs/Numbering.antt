-- The numbers of trees, one after the other.
use Rattle.std.proofs.Common.{◌≡◌, ℕ, zero, suc, ◌+◌, ◌≤◌, ◌<◌, arith, true, List, [], ◌∷◌, ◌++◌, length, map, take, get_or, Some, refl, ap, ap₂, ◌∙◌, sym, subst}
use Rattle.std.proofs.lemmas.List.{map-append, take_all, take_more}
use Rattle.type_tree.specs.declared.tree.Key.TheVariants.{Tree}
use Rattle.type_tree.specs.declared.tree.Ty.{Ty}
use Rattle.type_pool.specs.declared.key_nodes.KeyId.{KeyId}
use Rattle.type_pool.specs.declared.key_nodes.KeyNode.{KeyNode}
use Rattle.type_pool.specs.declared.nodes.Id.{Id}
use Rattle.type_pool.specs.Keys.{keys_below}
use Rattle.std.proofs.lemmas.Bool.{and_parts, ltb-true}
use Rattle.type_pool.specs.Trees.{at, at_all, ids_below}
use Rattle.method_table.specs.Named.{key_named, KeysGrow, NamesType, NamesTypes}
use Rattle.method_table.proofs.Growing.{keys_refl, keys_trans, types_more}

-- the first i of these trees have numbers, with `put` made of each
pub record IsNumbering (put : Ty → Ty) (ts0 : List Ty) (ks0 : List KeyNode) (ids : List Id) (i : ℕ) (ts : List Ty) (ks : List KeyNode) (done : List KeyId) : Type 0 where
  pub grows : KeysGrow ts0 ts ks0 ks
  pub named : NamesTypes ts ks done (map put (at_all ts0 (take i ids)))

module _ (put : Ty → Ty) (ts0 : List Ty) (ks0 : List KeyNode) (ids : List Id) where
  pub none_numbered : keys_below (length ts0) ks0 ≡ true → IsNumbering put ts0 ks0 ids 0 ts0 ks0 []
  none_numbered below = record { grows = keys_refl ts0 ks0 below; named = sym (ap (λ (l : List Id). map Some (map Tree (map put (at_all ts0 l)))) (nothing ids)) }
    where
      nothing : (l : List Id) → take 0 l ≡ []
      nothing [] = refl
      nothing (x ∷ l) = refl

  module _ (i : ℕ) (ts : List Ty) (ks : List KeyNode) (done : List KeyId) (was : IsNumbering put ts0 ks0 ids i ts ks done) where
    pub all_numbered : length ids ≤ i → NamesTypes ts ks done (map put (at_all ts0 ids))
    all_numbered past = subst (λ (l : List Id). NamesTypes ts ks done (map put (at_all ts0 l))) (take_all i ids past) was.named

    pub one_numbered : (us : List Ty) (ls : List KeyNode) (n : KeyId) (d : Id) → i < length ids → KeysGrow ts us ks ls → NamesType us ls n (put (at ts0 (get_or ids i d))) → IsNumbering put ts0 ks0 ids (i + 1) us ls (done ++ n ∷ [])
    one_numbered us ls n d inside grows named =
        let before : List Ty = map put (at_all ts0 (take i ids)) in
        let this : Ty = put (at ts0 (get_or ids i d)) in
        let more = take_more ids i d inside in
        let puts : map put (at_all ts0 (take i ids ++ get_or ids i d ∷ [])) ≡ before ++ this ∷ [] =
        ap (map put) (map-append (at ts0) (take i ids) (get_or ids i d ∷ [])) ∙ map-append put (at_all ts0 (take i ids)) (at ts0 (get_or ids i d) ∷ []) in record {
          grows = keys_trans ts0 ts us ks0 ks ls was.grows grows;
          named = map-append (key_named us ls) done (n ∷ [])
              ∙ ap₂ (λ xs x. xs ++ x ∷ []) (types_more ts us ks ls was.grows.within grows done before was.named) named
              ∙ sym (ap (λ (l : List Id). map Some (map Tree (map put (at_all ts0 l)))) more ∙ ap (λ (l : List Ty). map Some (map Tree l)) puts
              ∙ ap (map Some) (map-append Tree before (this ∷ [])) ∙ map-append Some (map Tree before) (Tree this ∷ []));
        }

pub below_in : (n : ℕ) (ids : List Id) (i : ℕ) (d : Id) → i < length ids → ids_below n ids ≡ true → (get_or ids i d).0 < n
below_in n [] i d inside h = absurd (omega arith)
below_in n (x ∷ ids) zero d inside h = ltb-true x.0 n (and_parts _ _ h).0
below_in n (x ∷ ids) (suc i) d inside h = below_in n ids i d (omega arith) (and_parts _ _ h).1
