-- The names of types in a file: their definitions (ECMA-335 II.22.37) and their references (II.22.38).
use Rattle.std.specs.Prelude.{ℕ, zero, suc, List, [], ◌++◌, codes, ◌==◌, ◌&&◌, nat_le, not, Bool, true, Option, None, Some, is_some, if◌then◌else◌}
use Rattle.cli_tables.specs.declared.schema.CodedIndex.TheVariants.{ResolutionScope}
use Rattle.cli_tables.specs.Metadata.{Metadata}
use Rattle.image_rows.specs.declared.cells.RowOf.{RowOf}
use Rattle.image_rows.specs.Cells.{at, rows, text, coded}
use Rattle.image_rows.specs.Nesting.{enclosing_row}

-- a namespace and its dot, nothing where it is empty
abbrev pub qualifier : List ℕ → List ℕ
qualifier [] = []
qualifier namespace = namespace ++ codes "."

abbrev pub qualified : List ℕ → List ℕ → List ℕ
qualified namespace name = qualifier namespace ++ name

-- ---- definitions

abbrev pub def_name : Metadata → ℕ → List ℕ
def_name m row = text m 0x02 row 1

abbrev pub def_namespace : Metadata → ℕ → List ℕ
def_namespace m row = text m 0x02 row 2

-- the name of a definition behind those of the definitions around it, of which at most n are looked at
unfoldable pub full_name_within : ℕ → Metadata → ℕ → List ℕ
full_name_within zero m row = qualified (def_namespace m row) (def_name m row)
full_name_within (suc n) m row =
    if enclosing_row m row == 0 then qualified (def_namespace m row) (def_name m row)
    else full_name_within n m (enclosing_row m row) ++ codes "+" ++ def_name m row

-- The full name of a definition. There are fewer definitions around it than its row's number, since each stands before the one
-- that it encloses.
abbrev pub full_name : Metadata → ℕ → List ℕ
full_name m row = full_name_within row m row

-- ---- references

abbrev pub ref_name : Metadata → ℕ → List ℕ
ref_name m row = text m 0x01 row 1

abbrev pub ref_namespace : Metadata → ℕ → List ℕ
ref_namespace m row = text m 0x01 row 2

-- where a reference is resolved
abbrev pub scope : Metadata → ℕ → Option RowOf
scope m row = coded ResolutionScope (at m 0x01 row 0)

-- the reference that a scope is, 0 where it is none of the rows that there are
abbrev pub outer_of : ℕ → Option RowOf → ℕ
outer_of count None = 0
outer_of count (Some s) = if s.table == 0x01 && nat_le s.row count then s.row else 0

abbrev pub outer : Metadata → ℕ → ℕ
outer m row = outer_of (rows m 0x01) (scope m row)

-- the most scopes that one goes through, the last one counted
abbrev pub most_scopes : ℕ
most_scopes = 64

-- The scopes of a reference come to an end with n of them at most. The last one, a module or an assembly, counts; no scope doesn't.
unfoldable pub ends_within : ℕ → Metadata → ℕ → Bool
ends_within zero m row = not (is_some (scope m row))
ends_within (suc n) m row = if outer m row == 0 then true else ends_within n m (outer m row)

-- the name of a reference behind those of the references around it, of which at most n are looked at
unfoldable pub ref_name_within : ℕ → Metadata → ℕ → List ℕ
ref_name_within zero m row = qualified (ref_namespace m row) (ref_name m row)
ref_name_within (suc n) m row =
    if outer m row == 0 then qualified (ref_namespace m row) (ref_name m row)
    else ref_name_within n m (outer m row) ++ codes "+" ++ ref_name m row

-- The name of a reference that names no definition. A nested one is named behind the reference around it, where the scopes come
-- to an end.
unfoldable pub name_of_ref : Metadata → ℕ → List ℕ
name_of_ref m row =
    if ends_within most_scopes m row then ref_name_within most_scopes m row else qualified (ref_namespace m row) (ref_name m row)
