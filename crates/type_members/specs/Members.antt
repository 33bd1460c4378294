-- Methods and fields of files (ECMA-335 II.22.15, II.22.26).
use Rattle.std.specs.Prelude.{ℕ, ◌+◌, ◌-◌, ◌*◌, ◌&&◌, nat_le, List, [], map, false, Option, get_or, if◌then◌else◌}
use Rattle.std.specs.Option.{option_map}
use Rattle.clr_base.specs.declared.ids.DefId.{DefId}
use Rattle.cli_sigs.specs.declared.signature.SigMethod.{SigMethod}
use Rattle.cli_sigs.specs.declared.signature.SigTy.{SigTy}
use Rattle.cli_sigs.specs.declared.signature.SigTy.TheVariants as sig
use Rattle.cli_sigs.specs.Signatures.{placed, field_at, member_at}
use Rattle.cli_tables.specs.Metadata.{Metadata}
use Rattle.type_tree.specs.declared.definition.Field.{Field}
use Rattle.type_tree.specs.declared.definition.Formal.{Formal}
use Rattle.type_tree.specs.declared.definition.Method.{Method}
use Rattle.type_tree.specs.declared.tree.Ty.{Ty}
use Rattle.type_names.specs.declared.file_names.FileNames.{FileNames}
use Rattle.type_names.specs.declared.type_rows.TypeRows.{TypeRows}
use Rattle.image_rows.specs.Cells.{rows_of, at, blob, rows_with, first_with, owner_of}
use Rattle.image_rows.specs.Blobs.{row_counts, value_or}
use Rattle.type_members.specs.Trees.{tree, trees, coded_type, empty_name}

-- ---- generic parameters (II.22.20), and their constraints (II.22.21)

-- the coded index TypeOrMethodDef (II.24.2.6) of a TypeDef and of a MethodDef row
abbrev pub type_owner : ℕ → ℕ
type_owner row = 2 * row

abbrev pub method_owner : ℕ → ℕ
method_owner row = 2 * row + 1

abbrev pub constraints_of : TypeRows → Metadata → ℕ → List Ty
constraints_of s m g = map (λ c. coded_type s m (at m 0x2C c 1)) (rows_with m 0x2C 0 g)

abbrev pub formal_of : TypeRows → Metadata → ℕ → Formal
formal_of s m g = record { flags = at m 0x2A g 1; constraints = constraints_of s m g }

-- the generic parameters of an owner
unfoldable pub formals_of : TypeRows → Metadata → ℕ → List Formal
formals_of s m owner = map (formal_of s m) (rows_with m 0x2A 2 owner)

-- ---- signatures

abbrev pub no_method : SigMethod
no_method = record { has_this = false; vararg = false; generic = 0; ret = sig.BuiltIn 1; params = [] }

-- what a blob says, read as the signature of a method, and as that of a field
abbrev pub method_in : Metadata → List ℕ → SigMethod
method_in m bytes = value_or no_method (placed bytes (member_at (row_counts m) bytes))

abbrev pub field_in : Metadata → List ℕ → SigTy
field_in m bytes = value_or (sig.Odd 0) (placed bytes (field_at (row_counts m) bytes))

-- what the blobs of a MethodDef and of a Field row say
unfoldable pub method_sig : Metadata → ℕ → SigMethod
method_sig m row = method_in m (blob m 0x06 row 4)

unfoldable pub field_sig : Metadata → ℕ → SigTy
field_sig m row = field_in m (blob m 0x04 row 2)

-- ---- methods and fields

-- the definition in the TypeDef row that owns a row of a run; 0 where none does
abbrev pub owner_id : TypeRows → ℕ → DefId
owner_id s def = record { 0 = (if nat_le 1 def && nat_le def s.defs then s.first_def + (def - 1) else 0) }

-- a method of the definition in a TypeDef row, or of none, which is 0
unfoldable pub method_of : FileNames → Metadata → ℕ → ℕ → Method
method_of n m def row = record {
  name = get_or n.methods (row - 1) empty_name;
  def = owner_id n.types def;
  flags = at m 0x06 row 2;
  has_this = (method_sig m row).has_this;
  vararg = (method_sig m row).vararg;
  formals = formals_of n.types m (method_owner row);
  ret = tree n.types (method_sig m row).ret;
  params = trees n.types (method_sig m row).params;
}

-- the offset in the first FieldLayout row of a field (II.22.16)
abbrev pub place_of : Metadata → ℕ → Option ℕ
place_of m row = option_map (λ k. at m 0x10 k 0) (first_with m 0x10 1 row)

unfoldable pub field_of : FileNames → Metadata → ℕ → ℕ → Field
field_of n m def row = record {
  name = get_or n.fields (row - 1) empty_name;
  def = owner_id n.types def;
  flags = at m 0x04 row 0;
  ty = tree n.types (field_sig m row);
  place = place_of m row;
}

-- those of a file
unfoldable pub file_methods : FileNames → Metadata → List Method
file_methods n m = map (λ row. method_of n m (owner_of m 5 0x06 row) row) (rows_of m 0x06)

unfoldable pub file_generics : Metadata → List ℕ
file_generics m = map (λ row. (method_sig m row).generic) (rows_of m 0x06)

unfoldable pub file_fields : FileNames → Metadata → List Field
file_fields n m = map (λ row. field_of n m (owner_of m 4 0x04 row) row) (rows_of m 0x04)
