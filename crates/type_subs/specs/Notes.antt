-- Notes of the trees in which System.__Canon stands.
use Rattle.std.specs.Prelude.{◌≡◌, ℕ, ◌≤◌, Bool, false, ◌||◌, ◌==◌, List, length, Some, slice_get, slice_index_or}
use Rattle.std.specs.List.{list_any}
use Rattle.type_tree.specs.declared.tree.Ty.{Ty}
use Rattle.type_tree.specs.World.{Facts}
use Rattle.type_pool.specs.declared.nodes.Id.{Id}
use Rattle.type_pool.specs.declared.nodes.Node.{Node}
use Rattle.type_pool.specs.declared.nodes.Node.TheVariants.{Inst, Array, ByRef, Ptr, Var, MVar, Missing, Odd}
use Rattle.type_pool.specs.Trees.{at}
use Rattle.type_subs.specs.Canons.{has_canon}

-- there is a note of each of the first trees, and it is right
pub record IsNoted (w : Facts) (ts : List Ty) (flags : List Bool) : Type 0 where
  pub few : length flags ≤ length ts
  pub right : (i : ℕ) (b : Bool) → slice_get flags i ≡ Some b → has_canon w (at ts (record { 0 = i })) ≡ b

-- the note of a tree
abbrev pub flag : List Bool → Id → Bool
flag flags a = slice_index_or flags a.0 false

abbrev pub level_has_canon : Facts → List Bool → Node → Bool
level_has_canon w flags (Inst d parts) = d.0 == w.canon.0 || list_any (flag flags) parts
level_has_canon w flags (Array part) = flag flags part
level_has_canon w flags (ByRef part) = flag flags part
level_has_canon w flags (Ptr part) = flag flags part
level_has_canon w flags (Var n) = false
level_has_canon w flags (MVar n) = false
level_has_canon w flags (Missing name value) = false
level_has_canon w flags (Odd code) = false
