-- The own instance fields of a type, and what is fixed of the core's types.
use Rattle.std.specs.Prelude.{ℕ, Bool, true, false, not, ◌&&◌, ◌==◌, if◌then◌else◌, List, [], ◌∷◌, map, filter, take, drop, bit_and, Option, None, Some, slice_get}
use Rattle.clr_base.specs.declared.ids.DefId.{DefId}
use Rattle.type_tree.specs.declared.tree.Ty.{Ty}
use Rattle.type_tree.specs.declared.definition.Def.{Def}
use Rattle.type_tree.specs.declared.definition.Field.{Field}
use Rattle.type_tree.specs.World.{Facts}
use Rattle.type_tree.specs.Subst.{subst_ty}
use Rattle.field_places.specs.declared.shape.Arrangement.{Arrangement}
use Rattle.field_places.specs.declared.shape.Arrangement.TheVariants.{Auto, Sequential, Explicit}
use Rattle.field_places.specs.declared.layout.Rules.{Rules}
use Rattle.field_layout.specs.CoreNumbers.{boolean, char, s_byte, byte, int_16, u_int_16, int_32, u_int_32, int_64, u_int_64, int_ptr, u_int_ptr, single, double, runtime_type_handle, exception}

-- neither static (0x10) nor literal (0x40) (II.23.1.5)
abbrev pub is_instance : Field → Bool
is_instance f = bit_and f.flags 80 == 0

-- those of a run of fields, in order
abbrev pub own_fields : Facts → Def → List Field
own_fields w d = filter is_instance (take d.fields (drop d.first_field w.fields))

-- the type of a field, with the owner's arguments put in
abbrev pub type_in : List Ty → Field → Ty
type_in args f = subst_ty args [] f.ty

abbrev pub field_types : Facts → Def → List Ty → List Ty
field_types w d args = map (type_in args) (own_fields w d)

-- the offsets of FieldLayout rows (II.22.16)
abbrev pub given_places : Facts → Def → List (Option ℕ)
given_places w d = map (λ f. f.place) (own_fields w d)

-- the layout flags (II.23.1.15): 8 sequential, 0x10 explicit; both together are auto
abbrev pub arrangement : Def → Arrangement
arrangement d =
    if bit_and d.flags 24 == 8 then Sequential else if bit_and d.flags 24 == 16 then Explicit else Auto

-- what a definition says of the layout of its own part
abbrev pub rules_of : Bool → Def → Rules
rules_of value d = record { value = value; arrangement = arrangement d; packing = d.packing; least_size = d.least_size }

-- 0x20 (II.23.1.15)
abbrev pub is_interface : Def → Bool
is_interface d = not (bit_and d.flags 32 == 0)

-- the bytes of a built-in value type (I.12.1), and of System.RuntimeTypeHandle, by the core's numbers
abbrev pub core_width : ℕ → Option ℕ
core_width n =
    if n == boolean then Some 1 else if n == char then Some 2 else if n == s_byte then Some 1 else if n == byte then Some 1
    else if n == int_16 then Some 2 else if n == u_int_16 then Some 2 else if n == int_32 then Some 4 else if n == u_int_32 then Some 4
    else if n == int_64 then Some 8 else if n == u_int_64 then Some 8 else if n == int_ptr then Some 8 else if n == u_int_ptr then Some 8
    else if n == single then Some 4 else if n == double then Some 8 else if n == runtime_type_handle then Some 8 else None

abbrev pub width_of : ℕ → Option Def → Option ℕ
width_of n None = None
width_of n (Some d) = if d.file == 0 then core_width n else None

abbrev pub width : Facts → DefId → Option ℕ
width w id = width_of id.0 (slice_get w.defs id.0)

-- System.Exception keeps its message, and ends at 16
abbrev pub is_exception : DefId → Def → Bool
is_exception id d = d.file == 0 && id.0 == exception
