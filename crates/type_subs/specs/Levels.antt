-- The element of an array.
use Rattle.std.specs.Prelude.{Option, Some, None}
use Rattle.type_tree.specs.declared.tree.Ty.{Ty}
use Rattle.type_tree.specs.declared.tree.Ty.TheOpen.{Ty-F}
use Rattle.type_tree.specs.declared.tree.Ty.TheViews.{out-Ty}
use Rattle.type_pool.specs.declared.nodes.Id.{Id}
use Rattle.type_pool.specs.declared.nodes.Node.{Node}
use Rattle.type_pool.specs.declared.nodes.Node.TheVariants as node

abbrev pub element_at : Ty-F Ty → Option Ty
element_at (Ty-F.Array part) = Some part
element_at _ = None

abbrev pub element : Ty → Option Ty
element t = element_at (out-Ty t)

abbrev pub element_level : Node → Option Id
element_level (node.Array part) = Some part
element_level _ = None
