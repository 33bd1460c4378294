-- The numbers of the texts by which types are found.
use Rattle.std.specs.Prelude.{◌≡◌, ℕ, List, [], map, true, get_or}
use Rattle.std.specs.List.{list_all, list_any, range_with_len}
use Rattle.std.specs.Str.{bytes_eq}
use Rattle.clr_base.specs.declared.ids.NameId.{NameId}
use Rattle.cli_tables.specs.Metadata.{Metadata}
use Rattle.type_names.specs.declared.type_texts.CoreTexts.{CoreTexts}
use Rattle.type_names.specs.declared.type_texts.FileTexts.{FileTexts}
use Rattle.type_names.specs.declared.type_texts.NameColumns.{NameColumns}
use Rattle.core_types.specs.CoreTable.{core_defs}
use Rattle.core_types.specs.Names.{with_all, id_in}
use Rattle.type_names.specs.Numbering.{IsSettled, column_texts}
use Rattle.type_names.specs.Resolution.{core_assemblies, core_namespace, core_type_name}

-- ---- the core library

-- the names of assemblies under which the core is found, by their places
abbrev pub core_assembly : ℕ → List ℕ
core_assembly k = get_or core_assemblies k []

-- so many texts in their order
abbrev pub in_order : (ℕ → List ℕ) → ℕ → List (List ℕ)
in_order text count = map text (range_with_len 0 count)

-- ---- numbers

-- names with more behind them
pub record Extends (old new : List (List ℕ)) : Type 0 where
  pub more : List (List ℕ)
  pub is : new ≡ with_all bytes_eq old more

-- texts are among names, and have these numbers there
pub record AreNumbers (names texts : List (List ℕ)) (ids : List NameId) : Type 0 where
  pub settled : IsSettled names (λ ns. map (id_in ns) texts) ids
  pub among : list_all (λ t. list_any (bytes_eq t) names) texts ≡ true

-- namespaces and names have these numbers
pub record AreNamed (ns outer own : List (List ℕ)) (found : NameColumns) : Type 0 where
  pub namespaces : AreNumbers ns outer found.namespaces
  pub names : AreNumbers ns own found.names

-- the texts of a file have these numbers
pub record AreFileTexts (names : List (List ℕ)) (m : Metadata) (found : FileTexts) : Type 0 where
  pub defs : AreNamed names (column_texts m 0x02 2) (column_texts m 0x02 1) found.defs
  pub refs : AreNamed names (column_texts m 0x01 2) (column_texts m 0x01 1) found.refs
  pub assembly_refs : AreNumbers names (column_texts m 0x23 6) found.assembly_refs
  pub assemblies : AreNumbers names (column_texts m 0x20 7) found.assemblies

-- those of the core have these
pub record AreCoreTexts (names : List (List ℕ)) (found : CoreTexts) : Type 0 where
  pub types : AreNamed names (in_order core_namespace core_defs) (in_order core_type_name core_defs) found.types
  pub assemblies : AreNumbers names (in_order core_assembly 5) found.assemblies
  pub empty : IsSettled names (λ ns. id_in ns []) found.empty
