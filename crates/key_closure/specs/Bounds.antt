-- The bounds of a closure of keys.
use Rattle.std.specs.Prelude.{◌≡◌, ℕ, Bool, true, false, ◌&&◌, nat_le, List, length, map}
use Rattle.std.specs.List.{list_all}
use Rattle.type_tree.specs.declared.tree.Ty.{Ty}
use Rattle.type_tree.specs.declared.tree.Key.{Key}
use Rattle.type_tree.specs.Measure.{depth_of_key, weight_of_key}
use Rattle.type_pool.specs.declared.key_nodes.KeyNode.{KeyNode}
use Rattle.type_pool.specs.Keys.{key_at}
use Rattle.key_closure.specs.Closures.{Listed, IsWhole}

-- a key is at most 64 deep, and has a weight of at most 65,536
abbrev pub fits : Key → Bool
fits k = nat_le (depth_of_key k) 64 && nat_le (weight_of_key k) 65536

-- at most 4,096 keys, each of which fits
abbrev pub is_within : List Key → Bool
is_within keys = nat_le (length keys) 4096 && list_all fits keys

-- these are the members of the closure of the key, within the bounds
pub record IsClosure (needs : Key → List Key) (key : Key) (members : List Key) : Type 0 where
  pub whole : IsWhole needs key members
  pub within : is_within members ≡ true

-- the closure has no value: what is listed passes the bounds
abbrev pub IsTooLarge : (Key → List Key) → Key → Type 0
IsTooLarge needs key = (turns : ℕ) × (listed : List Key) × Listed needs key turns listed × (is_within listed ≡ false)

-- the keys that these spell over the trees of a pool
abbrev pub keys_at : List Ty → List KeyNode → List Key
keys_at ts nodes = map (key_at ts) nodes
