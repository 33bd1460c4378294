-- The first of some keys that has a fault, over a pool that grows.
use Rattle.std.proofs.Common.{◌≡◌, ℕ, ◌+◌, ◌≤◌, ◌<◌, ◌&&◌, nat_le, Bool, true, List, [], ◌∷◌, ◌++◌, length, map, take, drop, drop-cons, get_or, suc, Option, Some, None, slice_get, ap, ◌∙◌, sym, arith, add-one}
use Rattle.std.specs.List.{list_all}
use Rattle.std.proofs.Math.Seq.{take-suc}
use Rattle.std.proofs.lemmas.Bool.{and_parts, leb-true}
use Rattle.std.proofs.lemmas.List.{length-map}
use Rattle.std.proofs.lemmas.Option.{get_or_from_slice_get}
use Rattle.type_tree.specs.declared.tree.Ty.{Ty}
use Rattle.type_tree.specs.declared.tree.Key.{Key}
use Rattle.type_pool.specs.declared.key_nodes.KeyNode.{KeyNode}
use Rattle.type_pool.specs.Keys.{key_at, key_below, keys_below}
use Rattle.load_events.specs.declared.load_fault.LoadFault.{LoadFault}
use Rattle.key_closure.specs.Bounds.{fits, is_within, keys_at}
use Rattle.key_verdicts.specs.Verdicts.{or_later, first_refused}

module _ (keys : List KeyNode) (i : ℕ) (k : KeyNode) (low : i < length keys) (is : k ≡ get_or keys i k) where
  row : drop i keys ≡ k ∷ drop (i + 1) keys
  row = rw add-one (drop-cons keys i k low ∙ ap (λ (x : KeyNode). x ∷ drop (suc i) keys) (sym is))

  pub below : (n : ℕ) → keys_below n (drop i keys) ≡ true → (key_below n k ≡ true) × (keys_below n (drop (i + 1) keys) ≡ true)
  below n h = and_parts (key_below n k) (keys_below n (drop (i + 1) keys)) (sym (ap (keys_below n) row) ∙ h)

  module _ (ts : List Ty) (local : Key → Option LoadFault) (left : first_refused local (keys_at ts (drop i keys)) ≡ first_refused local (keys_at ts keys)) where
    abbrev pub later : Option (Key × LoadFault)
    later = first_refused local (keys_at ts (drop (i + 1) keys))

    here : or_later (key_at ts k) (local (key_at ts k)) later ≡ first_refused local (keys_at ts keys)
    here = sym (ap (λ (l : List KeyNode). first_refused local (keys_at ts l)) row) ∙ left

    pub found : (fault : LoadFault) → local (key_at ts k) ≡ Some fault → Some (key_at ts k, fault) ≡ first_refused local (keys_at ts keys)
    found fault e = sym (ap (λ (o : Option LoadFault). or_later (key_at ts k) o later) e) ∙ here

    pub missed : local (key_at ts k) ≡ None → first_refused local (keys_at ts (drop (i + 1) keys)) ≡ first_refused local (keys_at ts keys)
    missed e = sym (ap (λ (o : Option LoadFault). or_later (key_at ts k) o later) e) ∙ here

-- one more of a list
pub one_more : (keys : List KeyNode) (i : ℕ) (k : KeyNode) → i < length keys → slice_get keys i ≡ Some k → take (i + 1) keys ≡ take i keys ++ k ∷ []
one_more keys i k low e = rw add-one (take-suc keys i k low ∙ ap (λ (x : KeyNode). take i keys ++ x ∷ []) (get_or_from_slice_get keys i k k e))

pub few : (ts : List Ty) (keys : List KeyNode) → is_within (keys_at ts keys) ≡ true → length keys ≤ 4096
few ts keys h =
    let le = leb-true (length (keys_at ts keys)) 4096 (and_parts (nat_le (length (keys_at ts keys)) 4096) (list_all fits (keys_at ts keys)) h).0 in
    let long : length (keys_at ts keys) ≡ length keys = length-map keys (key_at ts) in
    omega arith
