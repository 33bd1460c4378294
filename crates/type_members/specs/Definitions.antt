-- The definitions of files (ECMA-335 II.22.37), with the rows that tell more of them.
use Rattle.std.specs.Prelude.{ℕ, ◌-◌, List, map, Option, None, Some, get_or}
use Rattle.std.specs.Option.{option_map_or}
use Rattle.cli_tables.specs.declared.schema.CodedIndex.TheVariants.{TypeDefOrRef}
use Rattle.cli_tables.specs.Metadata.{Metadata}
use Rattle.type_tree.specs.declared.definition.Def.{Def}
use Rattle.type_tree.specs.declared.definition.Impl.{Impl}
use Rattle.type_tree.specs.declared.tree.Ty.{Ty}
use Rattle.image_rows.specs.declared.cells.RowOf.{RowOf}
use Rattle.type_names.specs.declared.file_names.FileNames.{FileNames}
use Rattle.type_members.specs.declared.member_table.Run.{Run}
use Rattle.type_names.specs.declared.type_rows.TypeRows.{TypeRows}
use Rattle.image_rows.specs.Cells.{at, coded, rows_with, first_with}
use Rattle.type_members.specs.Members.{formals_of, type_owner}
use Rattle.type_members.specs.Trees.{coded_type, type_at_row, empty_name}

-- what a definition extends, nothing where its row is 0
abbrev pub parent_at : TypeRows → Metadata → Option RowOf → Option Ty
parent_at s m None = None
parent_at s m (Some r) = Some (type_at_row s m (Some r))

unfoldable pub parent_of : TypeRows → Metadata → ℕ → Option Ty
parent_of s m row = parent_at s m (coded TypeDefOrRef (at m 0x02 row 3))

-- the InterfaceImpl rows of a definition (II.22.23)
unfoldable pub interfaces_of : TypeRows → Metadata → ℕ → List Ty
interfaces_of s m row = map (λ i. coded_type s m (at m 0x09 i 1)) (rows_with m 0x09 0 row)

-- a column of the first ClassLayout row of a definition (II.22.8), 0 without one
unfoldable pub layout_of : Metadata → ℕ → ℕ → ℕ
layout_of m column row = option_map_or (λ k. at m 0x0F k column) (first_with m 0x0F 2 row) 0

-- the definition in a TypeDef row of the file with a number, from 1, with its run of members and its MethodImpl rows
unfoldable pub def_of : FileNames → Metadata → ℕ → Run → List Impl → ℕ → Def
def_of n m file run impls row = record {
  name = get_or n.defs (row - 1) empty_name;
  file = file;
  flags = at m 0x02 row 0;
  formals = formals_of n.types m (type_owner row);
  parent = parent_of n.types m row;
  interfaces = interfaces_of n.types m row;
  first_field = run.first_field;
  fields = run.fields;
  first_method = run.first_method;
  methods = run.methods;
  impls = impls;
  packing = layout_of m 0 row;
  least_size = layout_of m 1 row;
}
