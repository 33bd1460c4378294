-- The generic parameters that the arguments of a level are held against.
use Rattle.std.specs.Prelude.{List, [], slice_get}
use Rattle.type_tree.specs.declared.definition.Formal.{Formal}
use Rattle.type_tree.specs.World.{Facts}
use Rattle.type_pool.specs.declared.nodes.Node.{Node}
use Rattle.type_pool.specs.declared.nodes.Node.TheVariants.{Inst, Array, ByRef, Ptr, Var, MVar, Missing, Odd}
use Rattle.type_subs.specs.Constraints.{formals_of_def}

abbrev pub formals_level : Facts → Node → List Formal
formals_level w (Inst d parts) = formals_of_def (slice_get w.defs d.0)
formals_level w (Array part) = []
formals_level w (ByRef part) = []
formals_level w (Ptr part) = []
formals_level w (Var n) = []
formals_level w (MVar n) = []
formals_level w (Missing name value) = []
formals_level w (Odd code) = []
