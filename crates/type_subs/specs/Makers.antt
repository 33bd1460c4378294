-- Classes with a constructor, by levels.
use Rattle.std.specs.Prelude.{Bool, false, slice_get}
use Rattle.type_tree.specs.World.{Facts}
use Rattle.type_pool.specs.declared.nodes.Node.{Node}
use Rattle.type_pool.specs.declared.nodes.Node.TheVariants.{Inst, Array, ByRef, Ptr, Var, MVar, Missing, Odd}
use Rattle.type_subs.specs.Constraints.{can_be_made}

abbrev pub level_can_be_made : Facts → Node → Bool
level_can_be_made w (Inst d parts) = can_be_made w (slice_get w.defs d.0)
level_can_be_made w (Array part) = false
level_can_be_made w (ByRef part) = false
level_can_be_made w (Ptr part) = false
level_can_be_made w (Var n) = false
level_can_be_made w (MVar n) = false
level_can_be_made w (Missing name value) = false
level_can_be_made w (Odd code) = false
