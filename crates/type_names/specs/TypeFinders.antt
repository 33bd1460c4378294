-- How types are found by their numbers.
use Rattle.std.specs.Prelude.{◌≡◌, ℕ, ◌+◌, ◌<◌, ◌==◌, ◌&&◌, Bool, List, length, Some, slice_get}
use Rattle.std.specs.List.{find, range_with_len}
use Rattle.std.specs.Str.{bytes_eq}
use Rattle.cli_tables.specs.Metadata.{Metadata}
use Rattle.type_names.specs.declared.type_finder.TypeFinder.{TypeFinder}
use Rattle.type_names.specs.declared.type_keys.FirstPlaces.{FirstPlaces}
use Rattle.type_names.specs.declared.type_keys.TypeKey.{TypeKey}
use Rattle.type_names.specs.declared.type_texts.FileTexts.{FileTexts}
use Rattle.image_rows.specs.Cells.{rows}
use Rattle.core_types.specs.CoreTable.{core_defs}
use Rattle.core_types.specs.Names.{number_in}
use Rattle.image_rows.specs.Nesting.{enclosing_row}
use Rattle.type_names.specs.Resolution.{core_namespace, core_type_name}
use Rattle.type_names.specs.TypeKeys.{Finds, first_at, keys_of}
use Rattle.image_rows.specs.TypeNames.{def_name, def_namespace}
use Rattle.type_names.specs.TypeTexts.{AreCoreTexts, AreFileTexts}

-- what a type is called, by the numbers that its namespace and its name have among names
abbrev pub key_in : List (List ℕ) → ℕ → List ℕ → List ℕ → TypeKey
key_in names around namespace name = record { around = around; namespace = number_in names namespace; name = number_in names name }

-- Of so many types, by the definitions around them and their namespaces and names, the first one of each name is found.
abbrev pub is_called : (ℕ → ℕ) → (ℕ → List ℕ) → (ℕ → List ℕ) → ℕ → List ℕ → List ℕ → ℕ → Bool
is_called around outer own a s t i = around i == a && bytes_eq (outer i) s && bytes_eq (own i) t

pub record FindsTypes (names : List (List ℕ)) (count : ℕ) (around : ℕ → ℕ) (outer own : ℕ → List ℕ) (places : FirstPlaces) : Type 0 where
  pub few : (key : TypeKey) (i : ℕ) → first_at places key ≡ Some i → i < 4294967295
  pub each : (a : ℕ) (s t : List ℕ) → first_at places (key_in names a s t) ≡ find (is_called around outer own a s t) (range_with_len 0 count)

-- so the definitions of a file are found
abbrev pub FindsDefs : List (List ℕ) → Metadata → FirstPlaces → Type 0
FindsDefs names m = FindsTypes names (rows m 0x02) (λ i. enclosing_row m (i + 1)) (λ i. def_namespace m (i + 1)) (λ i. def_name m (i + 1))

-- the texts and the definitions of files are there, each file's at its place
pub record AreTexts (names : List (List ℕ)) (files : List Metadata) (texts : List FileTexts) : Type 0 where
  pub count : length texts ≡ length files
  pub each : (k : ℕ) (m : Metadata) (t : FileTexts) → slice_get files k ≡ Some m → slice_get texts k ≡ Some t → AreFileTexts names m t

pub record AreDefs (names : List (List ℕ)) (files : List Metadata) (defs : List FirstPlaces) : Type 0 where
  pub count : length defs ≡ length files
  pub each : (k : ℕ) (m : Metadata) (p : FirstPlaces) → slice_get files k ≡ Some m → slice_get defs k ≡ Some p → FindsDefs names m p

-- a file has as many texts of definitions as it has definitions
pub record AreSized (files : List Metadata) (texts : List FileTexts) : Type 0 where
  pub count : length texts ≡ length files
  pub namespaces : (k : ℕ) (m : Metadata) (t : FileTexts) → slice_get files k ≡ Some m → slice_get texts k ≡ Some t → length t.defs.namespaces ≡ rows m 0x02
  pub names : (k : ℕ) (m : Metadata) (t : FileTexts) → slice_get files k ≡ Some m → slice_get texts k ≡ Some t → length t.defs.names ≡ rows m 0x02

-- the definitions of files are found by the numbers of these texts
abbrev pub FindsKeys : Metadata → FileTexts → FirstPlaces → Type 0
FindsKeys m t p = Finds (keys_of (λ i. enclosing_row m (i + 1)) t.defs (rows m 0x02)) p

pub record AreIndexed (files : List Metadata) (texts : List FileTexts) (defs : List FirstPlaces) : Type 0 where
  pub count : length defs ≡ length files
  pub each : (k : ℕ) (m : Metadata) (t : FileTexts) (p : FirstPlaces) → slice_get files k ≡ Some m → slice_get texts k ≡ Some t → slice_get defs k ≡ Some p
      → FindsKeys m t p

pub record IsFinder (f : TypeFinder) : Type 0 where
  pub few : length f.files.now < 17
  pub core : AreCoreTexts f.names f.core
  pub core_types : FindsTypes f.names core_defs (λ i. 0) core_namespace core_type_name f.core_types
  pub texts : AreTexts f.names f.files.now f.texts
  pub defs : AreDefs f.names f.files.now f.defs
