-- What a definition may extend (ECMA-335 II.10.1.3, II.22.37): a class that isn't sealed and is no value
-- type. An interface extends nothing (II.12.1); of the others System.Object alone, and the pseudo-class of a
-- file's globals, its first row (II.22.37).
use Rattle.std.specs.Prelude.{ℕ, zero, suc, Bool, true, false, not, ◌&&◌, ◌||◌, ◌==◌, List, Option, None, Some, slice_get}
use Rattle.std.specs.Option.{option_map_or}
use Rattle.clr_base.specs.declared.ids.DefId.{DefId}
use Rattle.type_tree.specs.declared.tree.Ty.{Ty}
use Rattle.type_tree.specs.declared.tree.Ty.TheOpen.{Ty-F}
use Rattle.type_tree.specs.declared.tree.Ty.TheViews.{out-Ty}
use Rattle.type_tree.specs.declared.definition.Def.{Def}
use Rattle.type_tree.specs.World.{Facts}
use Rattle.type_tree.specs.Kinds.{is_value_def}
use Rattle.core_types.specs.declared.core_type.CoreType.TheVariants.{Object}
use Rattle.def_faults.specs.Flags.{is_interface, is_sealed, of_def, is_core}

-- a definition that is sealed, a value type or an interface
abbrev pub is_closed : Facts → DefId → Bool
is_closed w id = is_value_def w id || of_def w (λ d. is_sealed d || is_interface d) id

-- that, an array or a variable; a pointer or an odd form is another fault's
abbrev pub may_not_be_extended_at : Facts → Ty-F Ty → Bool
may_not_be_extended_at w (Ty-F.Inst id args) = is_closed w id
may_not_be_extended_at w (Ty-F.Missing name value) = value
may_not_be_extended_at w (Ty-F.Array e) = true
may_not_be_extended_at w (Ty-F.Var n) = true
may_not_be_extended_at w (Ty-F.MVar n) = true
may_not_be_extended_at w _ = false

abbrev pub may_not_be_extended : Facts → Ty → Bool
may_not_be_extended w t = may_not_be_extended_at w (out-Ty t)

-- the definition before the one with this number
abbrev pub before : List Def → ℕ → Option Def
before ds zero = None
before ds (suc n) = slice_get ds n

-- a file's first row; definitions stand in the order of their files, the core library's before them
abbrev pub is_first : Facts → DefId → Def → Bool
is_first w id d = not (d.file == 0) && option_map_or (λ e. not (e.file == d.file)) (before w.defs id.0) true

abbrev pub may_extend_nothing : Facts → DefId → Def → Bool
may_extend_nothing w id d = is_interface d || is_core w Object id || is_first w id d

abbrev pub has_bad_parent_at : Facts → DefId → Def → Option Ty → Bool
has_bad_parent_at w id d None = not (may_extend_nothing w id d)
has_bad_parent_at w id d (Some t) = is_interface d || may_not_be_extended w t

abbrev pub has_bad_parent : Facts → DefId → Def → Bool
has_bad_parent w id d = has_bad_parent_at w id d d.parent

abbrev pub is_bad_parent : Facts → DefId → Bool
is_bad_parent w id = of_def w (has_bad_parent w id) id
