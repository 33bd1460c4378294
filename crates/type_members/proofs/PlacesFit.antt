-- A reference names a definition that is there.
use Rattle.std.proofs.Common.{◌≡◌, ℕ, zero, suc, ◌+◌, ◌<◌, ◌≤◌, List, Option, None, Some, refl, arith, slice_get, subst}
use Rattle.std.specs.Prelude.{◌==◌, nat_le}
use Rattle.std.specs.Option.{option_map, option_and_then}
use Rattle.std.specs.List.{list_any}
use Rattle.std.specs.Str.{bytes_eq}
use Rattle.cli_tables.specs.Metadata.{Metadata}
use Rattle.image_rows.specs.declared.cells.RowOf.{RowOf}
use Rattle.type_names.specs.declared.resolution.DefPlace.{DefPlace}
use Rattle.type_names.specs.declared.resolution.DefPlace.TheVariants.{InCore, InFile}
use Rattle.core_types.specs.CoreTable.{core_defs}
use Rattle.image_rows.specs.Cells.{rows}
use Rattle.type_names.specs.Resolution.{core_assemblies, is_core_type, core_type, file_named, is_def, def_row, def_at, top_in, nested_in, in_assembly, assembly_text, in_scope, resolved_within, resolved}
use Rattle.image_rows.specs.TypeNames.{ref_name, ref_namespace, scope, most_scopes}
use Rattle.type_members.proofs.FileSums.{all_rows, rows_within}
use Rattle.clr_base.proofs.ListFacts.{choose, found_within}

module _ (files : List Metadata) where
  -- a definition that is found is below the count
  abbrev IsThere : Option DefPlace → Type 0
  IsThere None = Unit {0}
  IsThere (Some p) = (def_at files p).0 < core_defs + all_rows files 0x02

  in_row : (k : ℕ) (m : Metadata) (o : Option ℕ) → slice_get files k ≡ Some m → ((row : ℕ) → o ≡ Some row → (1 ≤ row) × (row < 1 + rows m 0x02))
      → IsThere (option_map (InFile k) o)
  in_row k m None e within = tt
  in_row k m (Some row) e within = let h = within row refl in omega (arith, h.0, h.1, rows_within files k 0x02 m e)

  row_within : (m : Metadata) (around : ℕ) (namespace name : List ℕ) (row : ℕ) → def_row m around namespace name ≡ Some row → (1 ≤ row) × (row < 1 + rows m 0x02)
  unfolding def_row
  row_within m around namespace name row e = found_within (is_def m around namespace name) 1 (rows m 0x02) row e

  in_file : (k around : ℕ) (namespace name : List ℕ) (o : Option Metadata) → slice_get files k ≡ o
      → IsThere (option_and_then (λ m. option_map (InFile k) (def_row m around namespace name)) o)
  in_file k around namespace name None e = tt
  in_file k around namespace name (Some m) e = in_row k m (def_row m around namespace name) e (row_within m around namespace name)

  top_there : (k : ℕ) (namespace name : List ℕ) → IsThere (top_in files k namespace name)
  top_there k namespace name = in_file k 0 namespace name (slice_get files k) refl

  nested_there : (p : DefPlace) (namespace name : List ℕ) → IsThere (nested_in files p namespace name)
  nested_there (InCore k) namespace name = tt
  nested_there (InFile k row) namespace name = in_file k row namespace name (slice_get files k) refl

  core_there : (o : Option ℕ) → ((k : ℕ) → o ≡ Some k → k < core_defs) → IsThere (option_map InCore o)
  core_there None within = tt
  core_there (Some k) within = omega (arith, within k refl)

  core_within : (namespace name : List ℕ) (k : ℕ) → core_type namespace name ≡ Some k → k < core_defs
  unfolding core_type
  core_within namespace name k e = (found_within (is_core_type namespace name) 0 core_defs k e).1

  named_there : (o : Option ℕ) (namespace name : List ℕ) → IsThere (option_and_then (λ k. top_in files k namespace name) o)
  named_there None namespace name = tt
  named_there (Some k) namespace name = top_there k namespace name

  assembly_there : (assembly namespace name : List ℕ) → IsThere (in_assembly files assembly namespace name)
  assembly_there assembly namespace name =
      choose IsThere (list_any (bytes_eq assembly) core_assemblies) _ _
      (λ _. core_there (core_type namespace name) (core_within namespace name)) (λ _. named_there (file_named files assembly) namespace name)

  behind_there : (o : Option DefPlace) (namespace name : List ℕ) → IsThere (option_and_then (λ p. nested_in files p namespace name) o)
  behind_there None namespace name = tt
  behind_there (Some p) namespace name = nested_there p namespace name

  scope_there : (k : ℕ) (m : Metadata) (place_of : ℕ → Option DefPlace) (namespace name : List ℕ) (s : Option RowOf)
      → IsThere (in_scope files k m place_of namespace name s)
  scope_there k m place_of namespace name None = tt
  scope_there k m place_of namespace name (Some s) =
      choose IsThere (s.table == 0x00) _ _ (λ _. top_there k namespace name)
      (λ _. choose IsThere (s.table == 0x23) _ _ (λ _. assembly_there (assembly_text m s.row) namespace name)
      (λ _. choose IsThere (s.table == 0x01) _ _ (λ _. behind_there (place_of s.row) namespace name) (λ _. tt)))

  there_within : (n k : ℕ) (m : Metadata) (row : ℕ) → IsThere (resolved_within n files k m row)
  unfolding resolved_within
  there_within zero k m row = tt
  there_within (suc n) k m row =
      choose IsThere (nat_le row (rows m 0x01)) _ _
      (λ _. scope_there k m (resolved_within n files k m) (ref_namespace m row) (ref_name m row) (scope m row)) (λ _. tt)

  there_if : (o : Option DefPlace) (p : DefPlace) → IsThere o → o ≡ Some p → (def_at files p).0 < core_defs + all_rows files 0x02
  there_if o p h e = subst IsThere e h

  pub resolved_there : (k : ℕ) (m : Metadata) (row : ℕ) (p : DefPlace) → resolved files k m row ≡ Some p → (def_at files p).0 < core_defs + all_rows files 0x02
  unfolding resolved
  resolved_there k m row p e = there_if _ p (there_within most_scopes k m row) e
