-- What a definition declares to implement is an interface (ECMA-335 II.12.2, II.22.23).
use Rattle.std.specs.Prelude.{Bool, false, not}
use Rattle.std.specs.List.{list_any}
use Rattle.clr_base.specs.declared.ids.DefId.{DefId}
use Rattle.type_tree.specs.declared.tree.Ty.{Ty}
use Rattle.type_tree.specs.declared.tree.Ty.TheOpen.{Ty-F}
use Rattle.type_tree.specs.declared.tree.Ty.TheViews.{out-Ty}
use Rattle.type_tree.specs.declared.definition.Def.{Def}
use Rattle.type_tree.specs.World.{Facts}
use Rattle.def_faults.specs.Flags.{is_interface, of_def}

-- an instantiation of an interface
abbrev pub is_interface_type_at : Facts → Ty-F Ty → Bool
is_interface_type_at w (Ty-F.Inst id args) = of_def w is_interface id
is_interface_type_at w _ = false

abbrev pub is_interface_type : Facts → Ty → Bool
is_interface_type w t = is_interface_type_at w (out-Ty t)

abbrev pub has_bad_interface : Facts → Def → Bool
has_bad_interface w d = list_any (λ t. not (is_interface_type w t)) d.interfaces

abbrev pub is_bad_interface : Facts → DefId → Bool
is_bad_interface w = of_def w (has_bad_interface w)
