-- The keys that are spelled over the trees of a pool.
use Rattle.std.specs.Prelude.{◌≡◌, ℕ, min, Bool, true, ◌&&◌, nat_lt, List, [], ◌++◌, length, map, Some, slice_get}
use Rattle.std.specs.List.{list_all}
use Rattle.type_tree.specs.declared.tree.Ty.{Ty}
use Rattle.type_tree.specs.declared.tree.Key as key
use Rattle.type_tree.specs.declared.tree.Key.TheVariants as key_of
use Rattle.type_tree.specs.Measure.{depth_of_key, weight_of_key}
use Rattle.type_pool.specs.declared.nodes.Id.{Id}
use Rattle.type_pool.specs.declared.nodes.Mark.{Mark}
use Rattle.type_pool.specs.declared.nodes.Node.{Node}
use Rattle.type_pool.specs.declared.nodes.Node.TheVariants.{Inst}
use Rattle.type_pool.specs.declared.key_nodes.KeyNode.{KeyNode}
use Rattle.type_pool.specs.declared.key_nodes.KeyNode.TheVariants.{Tree, Meth}
use Rattle.type_pool.specs.Trees.{AddsAtMost, at, at_all, ids_below}

-- the key over the trees of a pool
abbrev pub key_at : List Ty → KeyNode → key.Key
key_at ts (Tree id) = key_of.Tree (at ts id)
key_at ts (Meth owner method args) = key_of.Meth (record { owner = at ts owner; method = method; args = at_all ts args })

-- the arguments of a level, none where it is no instantiation
abbrev pub arguments_of : Node → List Id
arguments_of (Inst d parts) = parts
arguments_of _ = []

-- each number in it is below n
abbrev pub key_below : ℕ → KeyNode → Bool
key_below n (Tree id) = nat_lt id.0 n
key_below n (Meth owner method args) = nat_lt owner.0 n && ids_below n args

abbrev pub keys_below : ℕ → List KeyNode → Bool
keys_below n keys = list_all (key_below n) keys

abbrev pub mark_of_key : key.Key → Mark
mark_of_key k = record { depth = min (depth_of_key k) 4294967295; weight = min (weight_of_key k) 4294967295 }

-- this spells the key over a pool
pub record SpellsKey (ts : List Ty) (node : KeyNode) (k : key.Key) : Type 0 where
  pub within : key_below (length ts) node ≡ true
  pub is : key_at ts node ≡ k

-- each stands once
abbrev pub NodesOnce : List KeyNode → Type 0
NodesOnce ks = (i j : ℕ) (k : KeyNode) → slice_get ks i ≡ Some k → slice_get ks j ≡ Some k → i ≡ j

-- the new list has what the old one had, at the same places
abbrev pub NodesGrow : List KeyNode → List KeyNode → Type 0
NodesGrow old new = (more : List KeyNode) × (new ≡ old ++ more)

-- what follows where a key is looked up, and added where it is new
pub record KeyPut (old new : List KeyNode) (i : ℕ) (k : KeyNode) : Type 0 where
  pub once : NodesOnce new
  pub grows : NodesGrow old new
  pub adds : AddsAtMost old new k
  pub here : slice_get new i ≡ Some k
