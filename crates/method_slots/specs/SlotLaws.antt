-- What follows from the definition of slots.
use Rattle.std.specs.Prelude.{◌≡◌, ℕ, suc, false, List, ◌++◌, map, Some, slice_get}
use Rattle.type_tree.specs.declared.definition.Def.{Def}
use Rattle.type_tree.specs.declared.tree.Ty.{Ty}
use Rattle.type_tree.specs.Context.{arguments}
use Rattle.type_tree.specs.Kinds.{head}
use Rattle.type_tree.specs.World.{Facts}
use Rattle.method_slots.specs.Chains.{openers}
use Rattle.method_slots.specs.Opens.{Open, put_open}
use Rattle.method_slots.specs.Slots.{is_interface}

-- the slots of a class are those of its parent, with the parent's arguments put in, and then its own
abbrev pub KeepsSlots : Facts → ℕ → ℕ → Type 0
KeepsSlots w k n = (d : Def) (t : Ty) (p : ℕ) → slice_get w.defs n ≡ Some d → is_interface d ≡ false → d.parent ≡ Some t → head t ≡ Some p
    → (more : List Open) × (openers (suc k) w n ≡ map (put_open (arguments t)) (openers k w p) ++ more)
