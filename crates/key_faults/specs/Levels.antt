-- One level of a tree of a pool, with its parts as trees.
use Rattle.std.specs.Prelude.{List}
use Rattle.type_tree.specs.declared.tree.Ty.{Ty}
use Rattle.type_tree.specs.declared.tree.Ty.TheOpen.{Ty-F}
use Rattle.type_pool.specs.declared.nodes.Node.{Node}
use Rattle.type_pool.specs.declared.nodes.Node.TheVariants.{Inst, Array, ByRef, Ptr, Var, MVar, Missing, Odd}
use Rattle.type_pool.specs.Trees.{at, at_all}

abbrev pub level : List Ty → Node → Ty-F Ty
level ts (Inst d parts) = Ty-F.Inst d (at_all ts parts)
level ts (Array part) = Ty-F.Array (at ts part)
level ts (ByRef part) = Ty-F.ByRef (at ts part)
level ts (Ptr part) = Ty-F.Ptr (at ts part)
level ts (Var n) = Ty-F.Var n
level ts (MVar n) = Ty-F.MVar n
level ts (Missing name value) = Ty-F.Missing name value
level ts (Odd code) = Ty-F.Odd code
