-- What stands at the head of a tree of a pool.
use Rattle.std.specs.Prelude.{◌≡◌, ◌<◌, Bool, true, false, List, [], length}
use Rattle.type_tree.specs.declared.tree.Ty.{Ty}
use Rattle.type_tree.specs.declared.tree.Ty.TheOpen.{Ty-F}
use Rattle.type_tree.specs.declared.tree.Ty.TheViews.{out-Ty}
use Rattle.type_tree.specs.World.{Facts}
use Rattle.type_tree.specs.Kinds.{is_value_def}
use Rattle.type_pool.specs.declared.nodes.Node.{Node}
use Rattle.type_pool.specs.declared.nodes.Node.TheVariants as node
use Rattle.type_pool.specs.Trees.{at, at_all, ids_below}
use Rattle.type_relations.specs.declared.heads.Head.{Head}
use Rattle.type_relations.specs.declared.heads.Head.TheVariants.{Def, Array, Other}
use Rattle.type_relations.specs.Relations.{bases_at, contents_at}

abbrev pub IsHead : Facts → List Ty → Ty → Head → Type 0
IsHead w ts t (Def d args) = (d.0 < length w.defs) × (ids_below (length ts) args ≡ true) × (out-Ty t ≡ Ty-F.Inst d (at_all ts args))
IsHead w ts t (Array part) = (part.0 < length ts) × (out-Ty t ≡ Ty-F.Array (at ts part))
IsHead w ts t Other = (bases_at w (out-Ty t) ≡ []) × (contents_at w (out-Ty t) ≡ [])

-- whether a level is that of a value type
abbrev pub is_value_level : Facts → Node → Bool
is_value_level w (node.Inst d args) = is_value_def w d
is_value_level w (node.Array part) = false
is_value_level w (node.ByRef part) = false
is_value_level w (node.Ptr part) = false
is_value_level w (node.Var n) = false
is_value_level w (node.MVar n) = false
is_value_level w (node.Missing name value) = value
is_value_level w (node.Odd code) = false
