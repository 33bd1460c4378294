-- Which trees are value types, and which are reference types (ECMA-335 I.8.2.4, II.13).
use Rattle.std.specs.Prelude.{ℕ, Bool, false, true, not, ◌&&◌, ◌||◌, ◌==◌, Option, Some, None, slice_get}
use Rattle.clr_base.specs.declared.ids.DefId.{DefId}
use Rattle.type_tree.specs.declared.tree.Ty.{Ty}
use Rattle.type_tree.specs.declared.tree.Ty.TheOpen.{Ty-F}
use Rattle.type_tree.specs.declared.tree.Ty.TheViews.{out-Ty}
use Rattle.type_tree.specs.declared.definition.Def.{Def}
use Rattle.type_tree.specs.World.{Facts}

-- the number of the definition at the head of a tree
abbrev pub head_at : Ty-F Ty → Option ℕ
head_at (Ty-F.Inst d parts) = Some d.0
head_at _ = None

abbrev pub head : Ty → Option ℕ
head t = head_at (out-Ty t)

abbrev pub head_of : Option Ty → Option ℕ
head_of (Some t) = head t
head_of None = None

abbrev pub parent_of : Option Def → Option Ty
parent_of (Some d) = d.parent
parent_of None = None

-- a parent with this head makes the definition d a value type: System.Enum does, and
-- System.ValueType does for every other definition than System.Enum
abbrev pub is_value_parent : Facts → DefId → Option ℕ → Bool
is_value_parent w d (Some p) = p == w.enumeration.0 || (p == w.value_type.0 && not (d.0 == w.enumeration.0))
is_value_parent w d None = false

abbrev pub is_value_def : Facts → DefId → Bool
is_value_def w d = is_value_parent w d (head_of (parent_of (slice_get w.defs d.0)))

abbrev pub is_value_at : {A : Type 0} → Facts → Ty-F A → Bool
is_value_at w (Ty-F.Inst d parts) = is_value_def w d
is_value_at w (Ty-F.Missing name value) = value
is_value_at w _ = false

abbrev pub is_value : Facts → Ty → Bool
is_value w t = is_value_at w (out-Ty t)

abbrev pub is_reference_at : {A : Type 0} → Facts → Ty-F A → Bool
is_reference_at w (Ty-F.Inst d parts) = not (is_value_def w d)
is_reference_at w (Ty-F.Array part) = true
is_reference_at w (Ty-F.Missing name value) = not value
is_reference_at w _ = false

abbrev pub is_reference : Facts → Ty → Bool
is_reference w t = is_reference_at w (out-Ty t)
