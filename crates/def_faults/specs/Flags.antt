-- What the flags of a definition and of its members say, and where its members stand.
use Rattle.std.specs.Prelude.{Bool, false, not, ◌&&◌, ◌==◌, List, take, drop, bit_and, slice_get}
use Rattle.std.specs.Option.{option_map_or}
use Rattle.clr_base.specs.declared.ids.DefId.{DefId}
use Rattle.type_tree.specs.declared.definition.Def.{Def}
use Rattle.type_tree.specs.declared.definition.Field.{Field}
use Rattle.type_tree.specs.declared.definition.Method.{Method}
use Rattle.type_tree.specs.World.{Facts}
use Rattle.core_types.specs.declared.core_type.CoreType.{CoreType}
use Rattle.core_types.specs.CoreTable.{def_id}

-- interface 0x20 (II.23.1.15)
abbrev pub is_interface : Def → Bool
is_interface d = not (bit_and d.flags 32 == 0)

-- sealed 0x100
abbrev pub is_sealed : Def → Bool
is_sealed d = not (bit_and d.flags 256 == 0)

-- neither static 0x10 nor literal 0x40 (II.23.1.5)
abbrev pub is_instance_field : Field → Bool
is_instance_field f = bit_and f.flags 80 == 0

-- neither static 0x10 nor abstract 0x400 (II.23.1.10)
abbrev pub is_default : Method → Bool
is_default m = bit_and m.flags 1040 == 0

abbrev pub fields_of : Facts → Def → List Field
fields_of w d = take d.fields (drop d.first_field w.fields)

abbrev pub methods_of : Facts → Def → List Method
methods_of w d = take d.methods (drop d.first_method w.methods)

-- what holds of a definition, where there is one with that number
abbrev pub of_def : Facts → (Def → Bool) → DefId → Bool
of_def w p id = option_map_or p (slice_get w.defs id.0) false

-- a type of the core library, which is file 0
abbrev pub is_core : Facts → CoreType → DefId → Bool
is_core w t id = id.0 == (def_id t).0 && of_def w (λ d. d.file == 0) id
