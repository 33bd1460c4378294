-- Texts that get their numbers while more of them come.
use Rattle.std.specs.Prelude.{◌≡◌, ℕ, ◌+◌, ◌≤◌, ◌<◌, List, [], ◌∷◌, map, length, true, Option, None, Some, nat_eq}
use Rattle.std.specs.List.{list_any, range_with_len}
use Rattle.std.specs.Option.{IfSome}
use Rattle.std.specs.Str.{bytes_eq}
use Rattle.indexmap.specs.IndexMap.{IndexMap, get}
use Rattle.clr_base.specs.declared.ids.NameId.{NameId}
use Rattle.cli_tables.specs.Metadata.{Metadata}
use Rattle.core_types.specs.Names.{id_in, with_all}
use Rattle.image_rows.specs.Cells.{rows_of, text, text_by}
use Rattle.type_names.specs.declared.resolution.DefPlace.{DefPlace}
use Rattle.type_names.specs.declared.resolution.DefPlace.TheVariants.{InCore, InFile}
use Rattle.type_names.specs.Resolution.{first_def}

-- x is what `of` gives of these names, and of each list that texts added behind make of them
pub record IsSettled {A : Type 0} (names : List (List ℕ)) (of : List (List ℕ) → A) (x : A) : Type 0 where
  pub is : (more : List (List ℕ)) → x ≡ of (with_all bytes_eq names more)

-- a text is among names, and has a number there
pub record IsNumbered (names : List (List ℕ)) (t : List ℕ) (id : NameId) : Type 0 where
  pub among : list_any (bytes_eq t) names ≡ true
  pub number : id ≡ id_in names t

-- indexes of `#Strings` are noted with the numbers that their texts have among names
pub record AreNoted {S : Type 0} (m : Metadata) (names : List (List ℕ)) (noted : IndexMap ℕ NameId S) : Type 0 where
  pub each : (index : ℕ) → IfSome (get nat_eq noted index) (λ id. IsNumbered names (text_by m index) id)

-- the texts of a column, row by row
abbrev pub column_texts : Metadata → ℕ → ℕ → List (List ℕ)
column_texts m table column = map (λ row. text m table row column) (rows_of m table)

-- the text of a reference that names nothing
abbrev pub missing_text : List ℕ → Option DefPlace → List (List ℕ)
missing_text name (Some place) = []
missing_text name None = name ∷ []

-- ---- where definitions stand

-- a place is one of the core, or a row that there is
abbrev pub IsPlaced : List Metadata → DefPlace → Type 0
IsPlaced files (InCore k) = Unit {0}
IsPlaced files (InFile k row) = (1 ≤ row) × (k < length files) × (first_def files k + row ≤ first_def files (k + 1))

-- the numbers of the first definitions of files, and the number behind those of all of them
pub record AreFirsts (files : List Metadata) (firsts : List ℕ) : Type 0 where
  pub are : firsts ≡ map (first_def files) (range_with_len 0 (length files + 1))
  pub small : (k : ℕ) → k < length files + 1 → first_def files k < 4294967296
