-- The checks of the tables' rows, in order: table by table, row by row, column by column (ECMA-335 II.22). The place of a
-- fault is the token of the row.
use Rattle.std.specs.Prelude.{◌≡◌, ℕ, zero, suc, ◌+◌, ◌-◌, ◌*◌, ◌/◌, ◌%◌, ◌^◌, List, [], ◌∷◌, ◌++◌, length, Bool, false, not, ◌&&◌, ◌||◌, ◌==◌, nat_le, nat_lt, Option, None, Some, is_some, if◌then◌else◌, get_or, slice_index}
use Rattle.std.specs.Str.{is_utf8}
use Rattle.clr_base.specs.declared.image_fault.FaultKind.TheVariants.{BadIndex, BadText}
use Rattle.clr_base.specs.Checks.{Check, check, each, first_fault, none_of}
use Rattle.cli_tables.specs.declared.schema.CodedIndex.{CodedIndex}
use Rattle.cli_tables.specs.declared.schema.Column.{Column}
use Rattle.cli_tables.specs.declared.schema.Column.TheVariants.{U8, U16, U32, Strings, Guid, Blob, Row, Run, Coded}
use Rattle.cli_tables.specs.Heaps.{text_at, blob_at}
use Rattle.cli_tables.specs.Layout.{cell, row_count, one_if}
use Rattle.cli_tables.specs.Metadata.{Metadata}
use Rattle.cli_tables.specs.Schema.{columns, tables_of, tag_bits}

-- the token of a row (III.1.9): the table's number stands in the highest byte
unfoldable pub token : ℕ → ℕ → ℕ
token table row = 16777216 * table + row

-- A text is there, and is UTF-8.
abbrev pub is_text : Option (List ℕ) → Bool
is_text None = false
is_text (Some text) = is_utf8 text

-- a column that has the index of a text
unfoldable pub text_checks : List ℕ → ℕ → ℕ → List Check
text_checks heap index place =
    check (is_some (text_at heap index)) BadIndex place
    ∷ check (is_text (text_at heap index)) BadText place
    ∷ []

-- a row of a table: the table has so many
unfoldable pub is_row : Metadata → ℕ → ℕ → Bool
is_row m table row = nat_le 1 row && nat_le row (row_count m.tables table)

-- The first row of a run in a table: the table's end is one past its last row, and a run begins where the run before it
-- begins, or behind.
unfoldable pub is_run : Metadata → ℕ → ℕ → ℕ → Bool
is_run m table before first = nat_le 1 first && nat_le first (row_count m.tables table + 1) && nat_le before first

-- a row of the table that a tag means; no row, which is 0, only where that is allowed
abbrev pub is_row_of : Metadata → Bool → Option ℕ → ℕ → Bool
is_row_of m may_be_null None row = false
is_row_of m may_be_null (Some table) row = (may_be_null || nat_le 1 row) && nat_le row (row_count m.tables table)

-- a coded index (II.24.2.6): the low bits are the tag, the rest is the row
unfoldable pub is_coded : Metadata → Bool → CodedIndex → ℕ → Bool
is_coded m may_be_null coded value =
    is_row_of m may_be_null (get_or (tables_of coded) (value % 2 ^ tag_bits coded) None) (value / 2 ^ tag_bits coded)

-- what a type extends, and where a reference is resolved, may be nothing (II.22.37, II.22.38)
unfoldable pub may_be_null : ℕ → ℕ → Bool
may_be_null table column = (table == 0x02 && column == 3) || (table == 0x01 && column == 0)

-- the cell in the row before, 0 before the first row
unfoldable pub cell_before : Metadata → ℕ → ℕ → ℕ → ℕ
cell_before m table row c = if row == 1 then 0 else cell m.tables table (row - 1) c

-- a cell, by what its column holds. Of the runs those of TypeDef are checked.
abbrev pub value_checks : Metadata → ℕ → ℕ → ℕ → Column → ℕ → List Check
value_checks m table row c U8 value = []
value_checks m table row c U16 value = []
value_checks m table row c U32 value = []
value_checks m table row c Strings value = text_checks m.strings value (token table row)
value_checks m table row c Guid value = []
value_checks m table row c Blob value = check (is_some (blob_at m.blobs value)) BadIndex (token table row) ∷ []
value_checks m table row c (Row other) value = check (is_row m other value) BadIndex (token table row) ∷ []
value_checks m table row c (Run other) value =
    if table == 0x02 then check (is_run m other (cell_before m table row c) value) BadIndex (token table row) ∷ [] else []
value_checks m table row c (Coded coded) value = check (is_coded m (may_be_null table c) coded value) BadIndex (token table row) ∷ []

-- the cell in a row, counted from 1, and a column, counted from 0
unfoldable pub cell_checks : Metadata → ℕ → ℕ → ℕ → List Check
cell_checks m table row c = value_checks m table row c (get_or (columns table) c U8) (cell m.tables table row c)

-- the columns of a row
unfoldable pub column_checks : Metadata → ℕ → ℕ → List Check
column_checks m table row = each (length (columns table)) (cell_checks m table row)

-- the type that a row of NestedClass (II.22.32) nests, and the type around it
abbrev pub nested : Metadata → ℕ → ℕ
nested m row = cell m.tables 0x29 row 0

abbrev pub enclosing : Metadata → ℕ → ℕ
enclosing m row = cell m.tables 0x29 row 1

-- one of the first n rows of NestedClass nests a type
unfoldable pub nested_in_first : Metadata → ℕ → ℕ → Bool
nested_in_first m zero type = false
nested_in_first m (suc n) type = nested_in_first m n type || nested m (suc n) == type

-- The type around stands before the nested one, which has no earlier row of NestedClass.
unfoldable pub nested_rule : Metadata → ℕ → Bool
nested_rule m row = nat_lt (enclosing m row) (nested m row) && not (nested_in_first m (row - 1) (nested m row))

-- the number of a row of GenericParam (II.22.20), and the type or method that owns it
abbrev pub number : Metadata → ℕ → ℕ
number m row = cell m.tables 0x2a row 0

abbrev pub owner : Metadata → ℕ → ℕ
owner m row = cell m.tables 0x2a row 2

-- how many of the first n rows of GenericParam a type or method owns
unfoldable pub owned_in_first : Metadata → ℕ → ℕ → ℕ
owned_in_first m zero of = 0
owned_in_first m (suc n) of = owned_in_first m n of + one_if (owner m (suc n) == of)

-- the rows of one owner have the numbers 0, 1, 2 and on, in order
unfoldable pub number_rule : Metadata → ℕ → Bool
number_rule m row = number m row == owned_in_first m (row - 1) (owner m row)

-- what a row must be as a whole
unfoldable pub rule_checks : Metadata → ℕ → ℕ → List Check
rule_checks m table row =
    if table == 0x29 then check (nested_rule m row) BadIndex (token table row) ∷ []
    else if table == 0x2a then check (number_rule m row) BadIndex (token table row) ∷ []
    else []

unfoldable pub row_checks : Metadata → ℕ → ℕ → List Check
row_checks m table row = column_checks m table row ++ rule_checks m table row

unfoldable pub table_checks : Metadata → ℕ → List Check
table_checks m table = each (row_count m.tables table) (λ r. row_checks m table (r + 1))

-- The tables whose rows are checked, in order: TypeRef, TypeDef, Field, MethodDef, InterfaceImpl, MemberRef, ClassLayout,
-- FieldLayout, StandAloneSig, MethodImpl, TypeSpec, Assembly, AssemblyRef, NestedClass, GenericParam, MethodSpec,
-- GenericParamConstraint.
abbrev pub checked_tables : List ℕ
checked_tables =
    0x01 ∷ 0x02 ∷ 0x04 ∷ 0x06 ∷ 0x09 ∷ 0x0a ∷ 0x0f ∷ 0x10 ∷ 0x11 ∷ 0x19 ∷ 0x1b ∷ 0x20 ∷ 0x23 ∷ 0x29 ∷ 0x2a ∷ 0x2b ∷ 0x2c ∷ []

-- all their rows
unfoldable pub rows_checks : Metadata → List Check
rows_checks m = each (length checked_tables) (λ k. table_checks m (slice_index checked_tables k))

-- all rows pass
abbrev pub ArePassed : Metadata → Type 0
ArePassed m = first_fault (rows_checks m) ≡ none_of
