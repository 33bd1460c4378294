-- How keys over a pool grow, and what stays.
use Rattle.std.proofs.Common.{◌≡◌, ℕ, zero, suc, true, inl, inr, List, [], ◌∷◌, ◌++◌, map, length, Result, Ok, Err, IfOk, OnErr, Option, None, Some, slice_get, refl, ap, ◌∙◌, sym, subst, append_assoc, append-nil}
use Rattle.std.specs.Option.{option_map}
use Rattle.std.proofs.lemmas.Bool.{and_parts}
use Rattle.std.proofs.lemmas.List.Folds.{list_all-append}
use Rattle.type_tree.specs.declared.tree.Key.{Key}
use Rattle.type_tree.specs.declared.tree.Key.TheVariants.{Tree}
use Rattle.type_tree.specs.declared.tree.Ty.{Ty}
use Rattle.type_pool.specs.declared.key_nodes.KeyId.{KeyId}
use Rattle.type_pool.specs.declared.key_nodes.KeyNode.{KeyNode}
use Rattle.type_pool.specs.Keys.{key_at, key_below, keys_below, NodesGrow}
use Rattle.type_pool.specs.Trees.{AddsAtMost, Grows}
use Rattle.type_pool.proofs.Gets.{get_grows}
use Rattle.type_pool.proofs.JobLemmas.{grows_refl, grows_trans}
use Rattle.key_closure.proofs.NodeTurns.{key-grown, keys_below-grown}
use Rattle.type_record.specs.declared.loaded.FieldOf.{FieldOf}
use Rattle.type_record.specs.declared.loaded.SlotOf.{SlotOf}
use Rattle.type_record.specs.Naming.{field_in, slot_in}
use Rattle.method_table.specs.declared.parts.Front.{Front}
use Rattle.method_table.specs.Named.{key_named, KeysGrow, IsFront, NamesTypes, NamesOption, NamesFields, NamesSlots}
use Rattle.method_table.proofs.MoreNames.{names_more, option_more, fields_more, slots_more}

pub nodes_refl : (ks : List KeyNode) → NodesGrow ks ks
nodes_refl ks = ([], sym (append-nil ks))

pub nodes_trans : (ks ls ms : List KeyNode) → NodesGrow ks ls → NodesGrow ls ms → NodesGrow ks ms
nodes_trans ks ls ms g h = (g.0 ++ h.0, h.1 ∙ ap (λ l. l ++ h.0) g.1 ∙ append_assoc ks g.0 h.0)

pub keys_refl : (ts : List Ty) (ks : List KeyNode) → keys_below (length ts) ks ≡ true → KeysGrow ts ts ks ks
keys_refl ts ks h = record { trees = grows_refl ts; nodes = nodes_refl ks; within = h }

pub keys_trans : (ts us vs : List Ty) (ks ls ms : List KeyNode) → KeysGrow ts us ks ls → KeysGrow us vs ls ms → KeysGrow ts vs ks ms
keys_trans ts us vs ks ls ms g h = record { trees = grows_trans ts us vs g.trees h.trees; nodes = nodes_trans ks ls ms g.nodes h.nodes; within = h.within }

-- the pool alone grows
pub keys_stay : (ts us : List Ty) (ks : List KeyNode) → Grows ts us → keys_below (length ts) ks ≡ true → KeysGrow ts us ks ks
keys_stay ts us ks g h = record { trees = g; nodes = nodes_refl ks; within = keys_below-grown ts us g ks h }

-- first the pool, and then the keys as well
pub keys_after : (ts us vs : List Ty) (ks ls : List KeyNode) → Grows ts us → KeysGrow us vs ks ls → KeysGrow ts vs ks ls
keys_after ts us vs ks ls g h = record { trees = grows_trans ts us vs g h.trees; nodes = h.nodes; within = h.within }

-- a key that is put in
pub keys_put : {E : Type 0} (ts : List Ty) (old new : List KeyNode) (k : KeyNode) (r : Result KeyId E) → NodesGrow old new → IfOk r (λ _. AddsAtMost old new k) → OnErr r (new ≡ old)
    → keys_below (length ts) old ≡ true → key_below (length ts) k ≡ true → KeysGrow ts ts old new
keys_put ts old new k (Err e) grows adds same below inside = record { trees = grows_refl ts; nodes = grows; within = ap (keys_below (length ts)) same ∙ below }
keys_put ts old new k (Ok n) grows adds same below inside = record {
  trees = grows_refl ts;
  nodes = grows;
  within = elim adds [
    | inl stays ↦ ap (keys_below (length ts)) stays ∙ below
    | inr more ↦ ap (keys_below (length ts)) more ∙ list_all-append (key_below (length ts)) old (k ∷ []) ∙ rw (below, inside) refl
  ];
}

key_within : (n : ℕ) (ks : List KeyNode) (i : ℕ) (k : KeyNode) → keys_below n ks ≡ true → slice_get ks i ≡ Some k → key_below n k ≡ true
key_within n [] i k h here = absurd cc
key_within n (x ∷ ks) zero k h here = let e : x ≡ k = cc in subst (λ y. key_below n y ≡ true) e (and_parts _ _ h).0
key_within n (x ∷ ks) (suc i) k h here = key_within n ks i k (and_parts _ _ h).1 here

module _ (ts us : List Ty) (ks ls : List KeyNode) (below : keys_below (length ts) ks ≡ true) (g : KeysGrow ts us ks ls) where
  -- a number names what it did
  pub key_more : (n : KeyId) (k : Key) → key_named ts ks n ≡ Some k → key_named us ls n ≡ Some k
  key_more n k e = through (slice_get ks n.0) refl
    where
      through : (o : Option KeyNode) → slice_get ks n.0 ≡ o → key_named us ls n ≡ Some k
      through None none = let bad : None ≡ Some k = ap (option_map (key_at ts)) (sym none) ∙ e in absurd cc
      through (Some x) here =
          let stays : slice_get ls n.0 ≡ Some x = ap (λ l. slice_get l n.0) g.nodes.1 ∙ get_grows ks g.nodes.0 n.0 x here in
          ap (option_map (key_at us)) stays ∙ ap Some (key-grown ts us g.trees x (key_within (length ts) ks n.0 x below here)) ∙ ap (option_map (key_at ts)) (sym here) ∙ e

  pub types_more : (ns : List KeyId) (vs : List Ty) → NamesTypes ts ks ns vs → NamesTypes us ls ns vs
  types_more ns vs e = names_more (key_named ts ks) (key_named us ls) key_more ns (map Tree vs) e

  pub parent_more : (n : Option KeyId) (t : Option Ty) → NamesOption ts ks n t → NamesOption us ls n t
  parent_more n t e = option_more (key_named ts ks) (key_named us ls) Some key_more n (option_map Tree t) e

  pub own_more : (fs : List (FieldOf KeyId)) (gs : List (FieldOf Ty)) → NamesFields ts ks fs gs → NamesFields us ls fs gs
  own_more fs gs e = fields_more (key_named ts ks) (key_named us ls) key_more fs (map (field_in Tree) gs) e

  pub entries_more : (ss : List (SlotOf KeyId)) (es : List (SlotOf Ty)) → NamesSlots ts ks ss es → NamesSlots us ls ss es
  entries_more ss es e = slots_more (key_named ts ks) (key_named us ls) key_more ss (map (slot_in Tree) es) e

  pub front_more : (f : Front) (up : Option Ty) (parts : List Ty) (own : List (FieldOf Ty)) → IsFront ts ks f up parts own → IsFront us ls f up parts own
  front_more f up parts own is = record { parent = parent_more f.parent up is.parent; args = types_more f.args parts is.args; fields = own_more f.fields own is.fields }
