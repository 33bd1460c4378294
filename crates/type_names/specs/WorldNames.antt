-- The names of a world, and what the rows of its files are called.
use Rattle.std.specs.Prelude.{ℕ, List, [], ◌∷◌, ◌++◌, map, filter, is_none, Option, None, Some}
use Rattle.std.specs.List.{flat_map, enumerate_from}
use Rattle.cli_tables.specs.Metadata.{Metadata}
use Rattle.type_names.specs.declared.file_names.FileNames.{FileNames}
use Rattle.type_names.specs.declared.resolution.DefPlace.{DefPlace}
use Rattle.type_names.specs.declared.type_rows.Target.{Target}
use Rattle.type_names.specs.declared.type_rows.Target.TheVariants as target
use Rattle.type_names.specs.declared.type_rows.TypeRows.{TypeRows}
use Rattle.core_types.specs.CoreLibrary.{texts_in_order}
use Rattle.image_rows.specs.Cells.{rows, rows_of, text}
use Rattle.core_types.specs.Names.{first_seen, id_in}
use Rattle.type_names.specs.Numbering.{column_texts}
use Rattle.type_names.specs.Resolution.{def_at, resolved, first_def}
use Rattle.image_rows.specs.TypeNames.{full_name, name_of_ref}

-- the references of a file that name no definition
abbrev pub missing_refs : List Metadata → ℕ → Metadata → List ℕ
missing_refs files k m = filter (λ row. is_none (resolved files k m row)) (rows_of m 0x01)

-- The texts of a file: the full names of its definitions, the names of the references that are missing, the names of its
-- fields and of its methods.
unfoldable pub file_texts : List Metadata → ℕ × Metadata → List (List ℕ)
file_texts files (k, m) =
    map (full_name m) (rows_of m 0x02) ++ map (name_of_ref m) (missing_refs files k m)
    ++ column_texts m 0x04 1 ++ column_texts m 0x06 3

-- the core's names, the empty name, and the files' in their order, each once
unfoldable pub names : List Metadata → List (List ℕ)
names files = first_seen (texts_in_order ++ [] ∷ [] ++ flat_map (file_texts files) (enumerate_from 0 files))

-- ---- what the rows of a file are called, by a list of names

-- what a TypeRef row names: its definition, or its name where that is missing
abbrev pub target_in : List (List ℕ) → List Metadata → List ℕ → Option DefPlace → Target
target_in names files name (Some place) = target.Def (def_at files place)
target_in names files name None = target.Missing (id_in names name)

abbrev pub target_of_in : List (List ℕ) → List Metadata → ℕ → Metadata → ℕ → Target
target_of_in names files k m row = target_in names files (name_of_ref m row) (resolved files k m row)

unfoldable pub type_rows_in : List (List ℕ) → List Metadata → ℕ → Metadata → TypeRows
type_rows_in names files k m = record {
  first_def = first_def files k;
  defs = rows m 0x02;
  refs = map (target_of_in names files k m) (rows_of m 0x01);
}

unfoldable pub file_names_in : List (List ℕ) → List Metadata → ℕ → Metadata → FileNames
file_names_in names files k m = record {
  defs = map (λ row. id_in names (full_name m row)) (rows_of m 0x02);
  types = type_rows_in names files k m;
  fields = map (λ row. id_in names (text m 0x04 row 1)) (rows_of m 0x04);
  methods = map (λ row. id_in names (text m 0x06 row 3)) (rows_of m 0x06);
}

-- ---- by the names of the world

abbrev pub type_rows : List Metadata → ℕ → Metadata → TypeRows
type_rows files = type_rows_in (names files) files

abbrev pub file_names : List Metadata → ℕ → Metadata → FileNames
file_names files = file_names_in (names files) files

-- of all files
unfoldable pub all_file_names : List Metadata → List FileNames
all_file_names files = map (λ f. file_names files f.0 f.1) (enumerate_from 0 files)
