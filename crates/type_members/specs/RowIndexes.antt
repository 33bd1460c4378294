-- The rows of a table by the number in one of their columns, as an index has them.
use Rattle.std.specs.Prelude.{◌≡◌, ℕ, ◌<◌, ◌≤◌, ◌==◌, List, [], ◌∷◌, ◌++◌, nat_eq, length, Option, slice_get, slice_index, unwrap_or, if◌then◌else◌}
use Rattle.indexmap.specs.IndexMap.{IndexMap, get}
use Rattle.cli_tables.specs.Layout.{row_count}
use Rattle.cli_tables.specs.Metadata.{Metadata}
use Rattle.type_members.specs.declared.file_rows.FileRows.{FileRows}
use Rattle.type_members.specs.declared.row_index.RowIndex.{RowIndex}
use Rattle.image_rows.specs.Cells.{rows_with}

-- the rows that stand in a map at a number
abbrev pub rows_at : {S : Type 0} → IndexMap ℕ (List ℕ) S → ℕ → List ℕ
rows_at groups value = unwrap_or (get nat_eq groups value) []

-- the rows at the number v, once a row was added at the number `value`
abbrev pub rows_with_one : {S : Type 0} → IndexMap ℕ (List ℕ) S → ℕ → ℕ → ℕ → List ℕ
rows_with_one groups value row v = if value == v then rows_at groups v ++ row ∷ [] else rows_at groups v

-- the rows that an index has at a number
abbrev pub group : RowIndex → ℕ → List ℕ
group index value = rows_at index.groups value

-- At each number an index has the rows of a table that have it in a column.
pub record Indexes (m : Metadata) (table column : ℕ) (index : RowIndex) : Type 0 where
  pub each : (value : ℕ) → group index value ≡ rows_with m table column value

-- the first row that an index has at a number
abbrev pub first_of_group : RowIndex → ℕ → Option ℕ
first_of_group index value = slice_get (group index value) 0

-- each of them is a row of a table
pub record AreRows (m : Metadata) (table : ℕ) (found : List ℕ) : Type 0 where
  pub first : (i : ℕ) → i < length found → 1 ≤ slice_index found i
  pub last : (i : ℕ) → i < length found → slice_index found i ≤ row_count m.tables table

-- the indexes of a file: InterfaceImpl by its class, GenericParam and GenericParamConstraint by their owners, ClassLayout by
-- its parent, FieldLayout by its field, MethodImpl by its class
pub record AreFileRows (m : Metadata) (found : FileRows) : Type 0 where
  pub interfaces : Indexes m 0x09 0 found.interfaces
  pub params : Indexes m 0x2A 2 found.params
  pub constraints : Indexes m 0x2C 0 found.constraints
  pub class_layouts : Indexes m 0x0F 2 found.class_layouts
  pub field_layouts : Indexes m 0x10 1 found.field_layouts
  pub method_impls : Indexes m 0x19 0 found.method_impls
