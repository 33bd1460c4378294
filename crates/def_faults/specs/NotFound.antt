-- A type that is named and stands nowhere: a definition can't be laid out without what it extends (ECMA-335
-- II.22.37), the interfaces that it declares (II.22.23) and the value types of its fields (II.22.15), nor
-- without those of its parents.
use Rattle.std.specs.Prelude.{Bool, true, false, ◌&&◌, ◌||◌, Option, None, Some}
use Rattle.std.specs.List.{list_any}
use Rattle.clr_base.specs.declared.ids.DefId.{DefId}
use Rattle.type_tree.specs.declared.tree.Ty.{Ty}
use Rattle.type_tree.specs.declared.tree.Ty.TheOpen.{Ty-F}
use Rattle.type_tree.specs.declared.tree.Ty.TheViews.{out-Ty}
use Rattle.type_tree.specs.declared.definition.Def.{Def}
use Rattle.type_tree.specs.declared.definition.Field.{Field}
use Rattle.type_tree.specs.World.{Facts}
use Rattle.def_faults.specs.Chains.{parent, OnChain}
use Rattle.def_faults.specs.Flags.{is_instance_field, fields_of, of_def}

-- a name that no definition has
abbrev pub is_missing_at : Ty-F Ty → Bool
is_missing_at (Ty-F.Missing name value) = true
is_missing_at _ = false

abbrev pub is_missing : Ty → Bool
is_missing t = is_missing_at (out-Ty t)

-- such a name of a value type: whoever has a field of it needs its size
abbrev pub is_missing_value_at : Ty-F Ty → Bool
is_missing_value_at (Ty-F.Missing name value) = value
is_missing_value_at _ = false

abbrev pub is_missing_value : Ty → Bool
is_missing_value t = is_missing_value_at (out-Ty t)

abbrev pub is_missing_parent : Option Ty → Bool
is_missing_parent None = false
is_missing_parent (Some t) = is_missing t

abbrev pub is_missing_field : Field → Bool
is_missing_field f = is_instance_field f && is_missing_value f.ty

-- the definition names a parent, an interface or the value type of an instance field that stands nowhere
abbrev pub lacks_a_type : Facts → Def → Bool
lacks_a_type w d = is_missing_parent d.parent || list_any is_missing d.interfaces || list_any is_missing_field (fields_of w d)

abbrev pub lacks : Facts → DefId → Bool
lacks w = of_def w (lacks_a_type w)

-- so does a definition on its chain of parents
abbrev pub NotFound : Facts → DefId → Type 0
NotFound w id = OnChain (parent w) (lacks w) id
