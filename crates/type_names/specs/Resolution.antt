-- Which definition a reference to a type names (ECMA-335 II.7.3, II.22.38).
use Rattle.std.specs.Prelude.{ℕ, zero, suc, ◌+◌, ◌-◌, List, [], ◌∷◌, map, sum_by, take, codes, ◌==◌, nat_le, nat_lt, ◌&&◌, Bool, Option, None, Some, slice_get, if◌then◌else◌}
use Rattle.std.specs.Option.{option_map, option_and_then}
use Rattle.std.specs.List.{enumerate_from, find, position, range_with_len, list_any, before_last, after_last}
use Rattle.std.specs.Str.{bytes_eq}
use Rattle.clr_base.specs.declared.ids.DefId.{DefId}
use Rattle.cli_tables.specs.Metadata.{Metadata}
use Rattle.image_rows.specs.declared.cells.RowOf.{RowOf}
use Rattle.type_names.specs.declared.resolution.DefPlace.{DefPlace}
use Rattle.type_names.specs.declared.resolution.DefPlace.TheVariants.{InCore, InFile}
use Rattle.core_types.specs.CoreTable.{core_defs, def_text}
use Rattle.image_rows.specs.Cells.{rows, rows_of, text}
use Rattle.image_rows.specs.Nesting.{enclosing_row}
use Rattle.image_rows.specs.TypeNames.{def_name, def_namespace, ref_name, ref_namespace, scope, most_scopes}

-- ---- the core library

-- the names of assemblies under which the core library is found
abbrev pub core_assemblies : List (List ℕ)
core_assemblies =
    codes "mscorlib" ∷ codes "netstandard" ∷ codes "System.Runtime" ∷ codes "System.Private.CoreLib" ∷ codes "System.Console" ∷ []

-- the namespace and the name of a type of the core: what stands before and behind the last dot of its full name
unfoldable pub core_namespace : ℕ → List ℕ
core_namespace k = before_last (λ c. c == 46) (def_text k)

unfoldable pub core_type_name : ℕ → List ℕ
core_type_name k = after_last (λ c. c == 46) (def_text k)

abbrev pub is_core_type : List ℕ → List ℕ → ℕ → Bool
is_core_type namespace name k = bytes_eq (core_namespace k) namespace && bytes_eq (core_type_name k) name

unfoldable pub core_type : List ℕ → List ℕ → Option ℕ
core_type namespace name = find (is_core_type namespace name) (range_with_len 0 core_defs)

-- ---- files; they are counted from 0 here

-- how many rows of a table the files before one have
unfoldable pub rows_before : List Metadata → ℕ → ℕ → ℕ
rows_before files k table = sum_by (λ m. rows m table) (take k files)

-- the number of the definition in a file's first TypeDef row
abbrev pub first_def : List Metadata → ℕ → ℕ
first_def files k = core_defs + rows_before files k 0x02

-- the first file whose assembly, by its first Assembly row (II.22.2), has a name
abbrev pub has_name : List ℕ → Metadata → Bool
has_name name m = nat_lt 0 (rows m 0x20) && bytes_eq (text m 0x20 1 7) name

unfoldable pub file_named : List Metadata → List ℕ → Option ℕ
file_named files name = position (has_name name) files

-- the first TypeDef row with a namespace and a name whose definition stands in that of the row `around`, in none where that is 0
abbrev pub is_def : Metadata → ℕ → List ℕ → List ℕ → ℕ → Bool
is_def m around namespace name row =
    enclosing_row m row == around && bytes_eq (def_namespace m row) namespace && bytes_eq (def_name m row) name

unfoldable pub def_row : Metadata → ℕ → List ℕ → List ℕ → Option ℕ
def_row m around namespace name = find (is_def m around namespace name) (rows_of m 0x02)

-- ---- where a definition stands

abbrev pub def_at : List Metadata → DefPlace → DefId
def_at files (InCore k) = record { 0 = k }
def_at files (InFile k row) = record { 0 = first_def files k + (row - 1) }

-- a definition of a file that stands in that of the row `around`, in none where that is 0
abbrev pub def_in : List Metadata → ℕ → ℕ → List ℕ → List ℕ → Option DefPlace
def_in files k around namespace name =
    option_and_then (λ m. option_map (InFile k) (def_row m around namespace name)) (slice_get files k)

-- a definition that stands in no other
abbrev pub top_in : List Metadata → ℕ → List ℕ → List ℕ → Option DefPlace
top_in files k = def_in files k 0

-- a definition that stands in another one; none stands in one of the core
abbrev pub nested_in : List Metadata → DefPlace → List ℕ → List ℕ → Option DefPlace
nested_in files (InCore k) namespace name = None
nested_in files (InFile k row) namespace name = def_in files k row namespace name

-- a definition of an assembly: of the core library under one of its names, else of the first file of that name
abbrev pub in_assembly : List Metadata → List ℕ → List ℕ → List ℕ → Option DefPlace
in_assembly files assembly namespace name =
    if list_any (bytes_eq assembly) core_assemblies then option_map InCore (core_type namespace name)
    else option_and_then (λ k. top_in files k namespace name) (file_named files assembly)

-- ---- references

-- the name of the assembly in an AssemblyRef row (II.22.5)
abbrev pub assembly_text : Metadata → ℕ → List ℕ
assembly_text m row = if nat_le row (rows m 0x23) then text m 0x23 row 6 else []

-- What a scope leads to for a namespace and a name; place_of tells what a TypeRef row names.
abbrev pub in_scope : List Metadata → ℕ → Metadata → (ℕ → Option DefPlace) → List ℕ → List ℕ → Option RowOf → Option DefPlace
in_scope files k m place_of namespace name None = None
in_scope files k m place_of namespace name (Some s) =
    if s.table == 0x00 then top_in files k namespace name
    else if s.table == 0x23 then in_assembly files (assembly_text m s.row) namespace name
    else if s.table == 0x01 then option_and_then (λ p. nested_in files p namespace name) (place_of s.row)
    else None

-- the definition that a TypeRef row of a file names, through n scopes at most
unfoldable pub resolved_within : ℕ → List Metadata → ℕ → Metadata → ℕ → Option DefPlace
resolved_within zero files k m row = None
resolved_within (suc n) files k m row =
    if nat_le row (rows m 0x01)
    then in_scope files k m (resolved_within n files k m) (ref_namespace m row) (ref_name m row) (scope m row)
    else None

unfoldable pub resolved : List Metadata → ℕ → Metadata → ℕ → Option DefPlace
resolved files k m row = resolved_within most_scopes files k m row

-- what each TypeRef row of a file names, and those of all files
abbrev pub places_in : List Metadata → ℕ × Metadata → List (Option DefPlace)
places_in files (k, m) = map (resolved files k m) (rows_of m 0x01)

unfoldable pub all_places : List Metadata → List (List (Option DefPlace))
all_places files = map (places_in files) (enumerate_from 0 files)
