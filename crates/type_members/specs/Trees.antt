-- The trees of types that a file's rows and signatures mean.
use Rattle.std.specs.Prelude.{ℕ, ◌+◌, ◌-◌, ◌^◌, ◌≤◌, ◌==◌, ◌&&◌, nat_le, List, [], map, Bool, false, Option, None, Some, slice_get, if◌then◌else◌}
use Rattle.clr_base.specs.declared.ids.NameId.{NameId}
use Rattle.cli_sigs.specs.declared.signature.SigTy.{SigTy}
use Rattle.cli_sigs.specs.declared.signature.SigTy.TheOpen.{SigTy-F}
use Rattle.cli_sigs.specs.declared.signature.SigTy.TheFolds.{fold-SigTy}
use Rattle.cli_sigs.specs.declared.signature.SigTy.TheVariants as sig
use Rattle.cli_sigs.specs.Signatures.{placed, whole_type_at}
use Rattle.cli_tables.specs.declared.schema.CodedIndex.TheVariants.{TypeDefOrRef}
use Rattle.cli_tables.specs.Metadata.{Metadata}
use Rattle.type_tree.specs.declared.tree.Ty.{Ty}
use Rattle.type_tree.specs.declared.tree.Ty.TheVariants as ty
use Rattle.image_rows.specs.declared.cells.RowOf.{RowOf}
use Rattle.core_types.specs.declared.core_type.CoreType.{CoreType}
use Rattle.core_types.specs.declared.core_type.CoreType.TheVariants as known
use Rattle.type_names.specs.declared.type_rows.Target.{Target}
use Rattle.type_names.specs.declared.type_rows.Target.TheVariants as target
use Rattle.type_names.specs.declared.type_rows.TypeRows.{TypeRows}
use Rattle.core_types.specs.CoreLibrary.{plain}
use Rattle.core_types.specs.CoreTable.{core_names}
use Rattle.image_rows.specs.Blobs.{row_counts, value_or}
use Rattle.image_rows.specs.Cells.{rows, blob, coded}

-- the type of the core that a built-in code means (II.23.1.16); 0x1C is System.Object, and no signature gives another code
unfoldable pub built_in : ℕ → CoreType
built_in code =
    if code == 0x01 then known.Void
    else if code == 0x02 then known.Boolean
    else if code == 0x03 then known.Char
    else if code == 0x04 then known.SByte
    else if code == 0x05 then known.Byte
    else if code == 0x06 then known.Int16
    else if code == 0x07 then known.UInt16
    else if code == 0x08 then known.Int32
    else if code == 0x09 then known.UInt32
    else if code == 0x0A then known.Int64
    else if code == 0x0B then known.UInt64
    else if code == 0x0C then known.Single
    else if code == 0x0D then known.Double
    else if code == 0x0E then known.String
    else if code == 0x18 then known.IntPtr
    else if code == 0x19 then known.UIntPtr
    else known.Object

-- the empty name, which stands behind those of the core
abbrev pub empty_name : NameId
empty_name = record { 0 = core_names }

-- the numbers of a file's definitions fit 32 bits
abbrev pub AreNumbered : TypeRows → Type 0
AreNumbered s = s.first_def + s.defs ≤ 2 ^ 32

-- what stands for a row that doesn't exist, which is not so in a file that passes its checks
abbrev pub nothing : Bool → Ty
nothing value = ty.Missing empty_name value

-- ---- rows that are types

-- The type that a reference means, with arguments, by whether the signature calls it a value type. One that is missing keeps no
-- arguments.
abbrev pub target_type : List Ty → Bool → Option Target → Ty
target_type args value None = nothing value
target_type args value (Some (target.Def d)) = ty.Inst d args
target_type args value (Some (target.Missing name)) = ty.Missing name value

-- the type of the definition in a TypeDef row
abbrev pub def_type : TypeRows → List Ty → Bool → ℕ → Ty
def_type s args value row =
    if nat_le 1 row && nat_le row s.defs then ty.Inst (record { 0 = s.first_def + (row - 1) }) args else nothing value

-- the type that a TypeDef or a TypeRef row means, with arguments
abbrev pub row_type : TypeRows → List Ty → Bool → Option RowOf → Ty
row_type s args value None = nothing value
row_type s args value (Some r) =
    if r.table == 0x02 then def_type s args value r.row
    else if r.table == 0x01 then target_type args value (slice_get s.refs (r.row - 1))
    else nothing value

-- ---- signatures

-- one level; each part is given by its tree
abbrev pub tree_step : TypeRows → SigTy-F Ty → Ty
tree_step s (SigTy-F.BuiltIn code) = plain (built_in code)
tree_step s (SigTy-F.Inst index value parts) = row_type s parts value (coded TypeDefOrRef index)
tree_step s (SigTy-F.Array part) = ty.Array part
tree_step s (SigTy-F.ByRef part) = ty.ByRef part
tree_step s (SigTy-F.Ptr part) = ty.Ptr part
tree_step s (SigTy-F.Var n) = ty.Var n
tree_step s (SigTy-F.MVar n) = ty.MVar n
tree_step s (SigTy-F.Odd code) = ty.Odd code

-- the tree of a signature's type
unfoldable pub tree : TypeRows → SigTy → Ty
tree s = fold-SigTy Ty (tree_step s)

unfoldable pub trees : TypeRows → List SigTy → List Ty
trees s ts = map (tree s) ts

-- ---- TypeSpec rows (II.22.39), and columns that name types

unfoldable pub spec_sig : Metadata → ℕ → SigTy
spec_sig m row = value_or (sig.Odd 0) (placed (blob m 0x1B row 0) (whole_type_at (row_counts m) (blob m 0x1B row 0)))

abbrev pub spec_type : TypeRows → Metadata → ℕ → Ty
spec_type s m row = if nat_le 1 row && nat_le row (rows m 0x1B) then tree s (spec_sig m row) else nothing false

-- the type that a row of TypeDef, TypeRef or TypeSpec means; for no row, or one of another table, the missing type with the empty name
unfoldable pub type_at_row : TypeRows → Metadata → Option RowOf → Ty
type_at_row s m None = nothing false
type_at_row s m (Some r) = if r.table == 0x1B then spec_type s m r.row else row_type s [] false (Some r)

-- the type that a coded index means
abbrev pub coded_type : TypeRows → Metadata → ℕ → Ty
coded_type s m index = type_at_row s m (coded TypeDefOrRef index)
