-- What is known of the reader of a file's rows.
use Rattle.std.specs.Prelude.{◌≡◌, ℕ, ◌+◌, ◌<◌, ◌≤◌, ◌^◌, List, map, length}
use Rattle.cli_tables.specs.Metadata.{Metadata}
use Rattle.type_members.specs.declared.member_index.MemberIndex.{MemberIndex}
use Rattle.type_members.specs.declared.member_table.MemberTable.{MemberTable}
use Rattle.type_names.specs.declared.type_rows.TypeRows.{TypeRows}
use Rattle.image_rows.specs.Cells.{rows, rows_of, owner_of}
use Rattle.type_members.specs.MemberIndexes.{IsIndexOf}
use Rattle.type_members.specs.Trees.{AreNumbered}

-- the number of a text and of each definition and method fits 32 bits, and members are found by their index
pub record CanRead (names : List (List ℕ)) (members : MemberTable) (index : MemberIndex) (types : TypeRows) (m : Metadata) (first_method : ℕ) : Type 0 where
  pub named : length names < 2 ^ 32
  pub numbered : AreNumbered types
  pub methods : first_method + rows m 0x06 ≤ 2 ^ 32
  pub found : IsIndexOf members index

-- the owners of a file's MethodDef rows
abbrev pub AreOwners : Metadata → List ℕ → Type 0
AreOwners m owners = owners ≡ map (owner_of m 5 0x06) (rows_of m 0x06)
