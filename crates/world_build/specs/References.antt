-- What MemberRef, MethodSpec and MethodImpl rows name (ECMA-335 II.22.25, II.22.29, II.22.27).
use Rattle.std.specs.Prelude.{ℕ, ◌+◌, ◌-◌, ◌==◌, ◌&&◌, nat_le, List, [], map, false, Option, None, Some, if◌then◌else◌}
use Rattle.std.specs.Option.{option_and_then}
use Rattle.clr_base.specs.declared.ids.FieldId.{FieldId}
use Rattle.clr_base.specs.declared.ids.MethId.{MethId}
use Rattle.clr_base.specs.declared.ids.NameId.{NameId}
use Rattle.cli_sigs.specs.declared.signature.SigMethod.{SigMethod}
use Rattle.cli_sigs.specs.declared.signature.SigTy.{SigTy}
use Rattle.cli_sigs.specs.Signatures.{placed, method_spec_at}
use Rattle.cli_tables.specs.declared.schema.CodedIndex.TheVariants.{MemberRefParent, MethodDefOrRef}
use Rattle.cli_tables.specs.Metadata.{Metadata}
use Rattle.type_tree.specs.declared.definition.Impl.{Impl}
use Rattle.type_tree.specs.declared.parts.Member.{Member}
use Rattle.type_tree.specs.declared.parts.Member.TheVariants as member
use Rattle.type_tree.specs.declared.tree.Key.{Key}
use Rattle.type_tree.specs.declared.tree.Key.TheVariants.{Tree, Meth}
use Rattle.type_tree.specs.declared.tree.Ty.{Ty}
use Rattle.type_tree.specs.Kinds.{head}
use Rattle.image_rows.specs.declared.cells.RowOf.{RowOf}
use Rattle.type_members.specs.declared.member_table.MemberTable.{MemberTable}
use Rattle.type_names.specs.declared.type_rows.TypeRows.{TypeRows}
use Rattle.image_rows.specs.Cells.{rows, at, text, blob, coded, loose, owner_of, rows_with}
use Rattle.type_members.specs.MemberTable.{open_of, own_method, own_field}
use Rattle.type_members.specs.Members.{field_in, method_in}
use Rattle.core_types.specs.Names.{id_in}
use Rattle.image_rows.specs.Blobs.{begins_with, row_counts, value_or}
use Rattle.type_members.specs.Trees.{tree, trees, type_at_row, def_type, nothing}

-- what the rows of a file are read by: the names and the members of the world, the types of the file's rows, its tables, and the
-- number of the method in its first MethodDef row
pub record Reader : Type 0 where
  pub names : List (List ℕ)
  pub members : MemberTable
  pub types : TypeRows
  pub tables : Metadata
  pub first_method : ℕ

-- ---- MemberRef

-- the type that owns the member: the missing type with the empty name where the parent is a method, a module or none
unfoldable pub ref_owner : Reader → ℕ → Ty
ref_owner w row = type_at_row w.types w.tables (coded MemberRefParent (at w.tables 0x0A row 0))

abbrev pub ref_blob : Metadata → ℕ → List ℕ
ref_blob m row = blob m 0x0A row 2

unfoldable pub ref_method_sig : Metadata → ℕ → SigMethod
ref_method_sig m row = method_in m (ref_blob m row)

unfoldable pub ref_field_sig : Metadata → ℕ → SigTy
ref_field_sig m row = field_in m (ref_blob m row)

-- the name of the member; one that no row has is no name of the world, and finds nothing
unfoldable pub ref_name_id : Reader → ℕ → NameId
ref_name_id w row = id_in w.names (text w.tables 0x0A row 1)

abbrev pub field_member : Option FieldId → Member
field_member None = member.Lost
field_member (Some field) = member.Field field

abbrev pub method_member : Option MethId → Member
method_member None = member.Lost
method_member (Some method) = member.Method method

abbrev pub found_field : Reader → ℕ → Option FieldId
found_field w row =
    option_and_then (λ d. own_field w.members d (ref_name_id w row) (tree w.types (ref_field_sig w.tables row))) (head (ref_owner w row))

abbrev pub found_method : Reader → ℕ → Option MethId
found_method w row =
    option_and_then (λ d. own_method w.members d (ref_name_id w row) (open_of w.types (ref_method_sig w.tables row))) (head (ref_owner w row))

-- the member of the parent's definition with that name and signature; those that it inherits aren't looked at
unfoldable pub member_ref : Reader → ℕ → Member
member_ref w row = if begins_with 0x06 (ref_blob w.tables row) then field_member (found_field w row) else method_member (found_method w row)

-- ---- methods by MethodDefOrRef

-- the member of a MethodDef row, which no definition may own
abbrev pub def_member : Reader → ℕ → Member
def_member w row =
    if nat_le row (loose w.tables 5 0x06) then member.Lost
    else if nat_le row (rows w.tables 0x06) then member.Method (record { 0 = w.first_method + (row - 1) })
    else member.Lost

abbrev pub ref_member : Reader → ℕ → Member
ref_member w row = if nat_le 1 row && nat_le row (rows w.tables 0x0A) then member_ref w row else member.Lost

unfoldable pub named_member : Reader → Option RowOf → Member
named_member w None = member.Lost
named_member w (Some r) = if r.table == 0x06 then def_member w r.row else ref_member w r.row

-- the type that owns a row of a run, whose definition stands in a TypeDef row, or none, which is 0
abbrev pub owner_type : TypeRows → ℕ → Ty
owner_type s def = def_type s [] false def

abbrev pub def_owner : Reader → ℕ → Ty
def_owner w row = if nat_le 1 row && nat_le row (rows w.tables 0x06) then owner_type w.types (owner_of w.tables 5 0x06 row) else nothing false

abbrev pub ref_owner_or_none : Reader → ℕ → Ty
ref_owner_or_none w row = if nat_le 1 row && nat_le row (rows w.tables 0x0A) then ref_owner w row else nothing false

-- the type that owns the member
unfoldable pub named_owner : Reader → Option RowOf → Ty
named_owner w None = nothing false
named_owner w (Some r) = if r.table == 0x06 then def_owner w r.row else ref_owner_or_none w r.row

abbrev pub method_only : Member → Option MethId
method_only (member.Method m) = Some m
method_only _ = None

-- ---- MethodSpec

abbrev pub spec_row : Metadata → ℕ → Option RowOf
spec_row m row = coded MethodDefOrRef (at m 0x2B row 0)

unfoldable pub spec_args : Reader → ℕ → List Ty
spec_args w row =
    trees w.types (value_or [] (placed (blob w.tables 0x2B row 1) (method_spec_at (row_counts w.tables) (blob w.tables 0x2B row 1))))

unfoldable pub spec_method : Reader → ℕ → Option MethId
spec_method w row = method_only (named_member w (spec_row w.tables row))

unfoldable pub method_spec : Reader → ℕ → Member
method_spec w row = method_member (spec_method w row)

-- the method's key; the owner's type where the method is missing
abbrev pub spec_key_at : Ty → List Ty → Option MethId → Key
spec_key_at owner args None = Tree owner
spec_key_at owner args (Some m) = Meth (record { owner = owner; method = m; args = args })

unfoldable pub spec_key : Reader → ℕ → Key
spec_key w row = spec_key_at (named_owner w (spec_row w.tables row)) (spec_args w row) (spec_method w row)

-- ---- MethodImpl

abbrev pub impl_member : Reader → ℕ → ℕ → Option RowOf
impl_member w row column = coded MethodDefOrRef (at w.tables 0x19 row column)

unfoldable pub impl_of : Reader → ℕ → Impl
impl_of w row = record {
  body = method_only (named_member w (impl_member w row 1));
  owner = named_owner w (impl_member w row 2);
  declaration = method_only (named_member w (impl_member w row 2));
}

-- those of the definition in a TypeDef row
unfoldable pub impls_of : Reader → ℕ → List Impl
impls_of w row = map (impl_of w) (rows_with w.tables 0x19 0 row)
