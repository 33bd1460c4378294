-- What a key feeds a hasher.
use Rattle.std.specs.Prelude.{ℕ, List, ◌++◌}
use Rattle.std.specs.Hash as fed
use Rattle.type_pool.specs.declared.key_nodes.KeyNode.{KeyNode}
use Rattle.type_pool.specs.declared.key_nodes.KeyNode.TheVariants.{Tree, Meth}
use Rattle.type_pool.specs.Fed.{ids_input}

abbrev pub key_input : KeyNode → List (List ℕ)
key_input (Tree id) = fed.u8 0 ++ fed.u32 id.0
key_input (Meth owner method args) = fed.u32 owner.0 ++ fed.u32 method.0 ++ ids_input args
