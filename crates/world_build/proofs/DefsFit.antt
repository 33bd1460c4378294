-- The numbers in the definitions and the signatures of a file are below the counts of a world.
use Rattle.std.proofs.Common.{◌≡◌, ℕ, ◌-◌, true, List, [], ◌∷◌, ◌++◌, map, Option, None, Some, refl}
use Rattle.std.specs.Prelude.{nat_le}
use Rattle.std.specs.List.{flat_map}
use Rattle.std.proofs.lemmas.Bool.{and_parts, lt-ltb}
use Rattle.cli_tables.specs.declared.schema.CodedIndex.TheVariants.{TypeDefOrRef}
use Rattle.cli_tables.specs.Metadata.{Metadata}
use Rattle.type_tree.specs.declared.counts.Counts.{Counts}
use Rattle.type_tree.specs.declared.definition.Impl.{Impl}
use Rattle.type_tree.specs.declared.tree.Key.TheVariants.{Tree}
use Rattle.type_tree.specs.declared.tree.Ty.{Ty}
use Rattle.type_tree.specs.declared.tree.Ty.TheVariants as ty
use Rattle.type_tree.specs.Fits.{fits, all_fit, key_fits, parent_fits, impls_fit, is_within, def_fits}
use Rattle.type_tree.specs.Whole.{keys_fit}
use Rattle.image_rows.specs.declared.cells.RowOf.{RowOf}
use Rattle.type_names.specs.declared.file_names.FileNames.{FileNames}
use Rattle.type_members.specs.declared.member_table.Run.{Run}
use Rattle.type_names.specs.declared.type_rows.TypeRows.{TypeRows}
use Rattle.image_rows.specs.Cells.{rows_of, at, coded, owner_of, rows_with}
use Rattle.type_members.specs.Definitions.{parent_at, parent_of, interfaces_of, def_of}
use Rattle.type_members.specs.Members.{type_owner}
use Rattle.world_build.specs.References.{Reader, owner_type, ref_owner, spec_key}
use Rattle.world_build.specs.Signatures.{types_in, row_types, owners_in, member_keys, local_keys, file_keys}
use Rattle.image_files.specs.Signatures.{locals_in, listed}
use Rattle.type_members.specs.Trees.{tree, type_at_row, coded_type, empty_name}
use Rattle.clr_base.proofs.ListFacts.{all_of_map, all_of_both, all_at_or, both}
use Rattle.type_members.proofs.MembersFit.{NamesFit, name_fits, formals_of_fit}
use Rattle.world_build.proofs.ReferencesFit.{ReaderFits, ref_owner_fits, owner_type_fits, spec_key_fits}
use Rattle.type_members.proofs.TreesFit.{RowsFit, array_fits, tree_fits, type_at_row_fits, types_fit}

-- ---- definitions

pub record RunFits (c : Counts) (r : Run) : Type 0 where
  pub fields : is_within r.first_field r.fields c.fields ≡ true
  pub methods : is_within r.first_method r.methods c.methods ≡ true

module _ (c : Counts) where
  parent_at_fits : (s : TypeRows) (m : Metadata) (r : Option RowOf) → RowsFit c s → parent_fits c (parent_at s m r) ≡ true
  parent_at_fits s m None ok = refl
  parent_at_fits s m (Some r) ok = type_at_row_fits c s ok m (Some r)

  parent_of_fits : (s : TypeRows) (m : Metadata) (row : ℕ) → RowsFit c s → parent_fits c (parent_of s m row) ≡ true
  unfolding parent_of
  parent_of_fits s m row ok = parent_at_fits s m (coded TypeDefOrRef (at m 0x02 row 3)) ok

  interfaces_fit : (s : TypeRows) (m : Metadata) (row : ℕ) → RowsFit c s → all_fit c (interfaces_of s m row) ≡ true
  unfolding interfaces_of
  interfaces_fit s m row ok = types_fit c s ok (λ i. coded_type s m (at m 0x09 i 1)) (rows_with m 0x09 0 row) (λ i. type_at_row_fits c s ok m _)

  pub def_of_fits : (n : FileNames) (m : Metadata) (file : ℕ) (run : Run) (impls : List Impl) (row : ℕ) → NamesFit c n → nat_le file c.files ≡ true
      → RunFits c run → impls_fit c impls ≡ true → def_fits c (def_of n m file run impls row) ≡ true
  unfolding def_of
  def_of_fits n m file run impls row ok there run_fits impl_fit =
      both _ _
      (both _ _
      (both _ _
      (both _ _
      (both _ _
      (both _ _ (all_at_or (name_fits c) n.defs (row - 1) empty_name ok.defs (lt-ltb 52 c.names ok.types.empty)) there)
      (both _ _ run_fits.fields run_fits.methods))
      (parent_of_fits n.types m row ok.types))
      (formals_of_fit c n.types m (type_owner row) ok.types))
      (interfaces_fit n.types m row ok.types))
      impl_fit

-- ---- signatures

module _ (c : Counts) (w : Reader) (ok : ReaderFits c w) where
  keys_of_types : (ts : List Ty) → all_fit c ts ≡ true → keys_fit c (map Tree ts) ≡ true
  keys_of_types [] all = refl
  keys_of_types (t ∷ ts) all = let parts = and_parts (fits c t) (all_fit c ts) all in both _ _ parts.0 (keys_of_types ts parts.1)

  keys_of_arrays : (ts : List Ty) → all_fit c ts ≡ true → keys_fit c (map (λ t. Tree (ty.Array t)) ts) ≡ true
  keys_of_arrays [] all = refl
  keys_of_arrays (t ∷ ts) all =
      let parts = and_parts (fits c t) (all_fit c ts) all in both _ _ (array_fits c t parts.0) (keys_of_arrays ts parts.1)

  types_in_fit : (table : ℕ) → all_fit c (types_in w.types w.tables table) ≡ true
  unfolding types_in
  types_in_fit table =
      types_fit c w.types ok.types (λ row. type_at_row w.types w.tables (Some (record { table = table; row = row }))) (rows_of w.tables table)
      (λ row. type_at_row_fits c w.types ok.types w.tables (Some (record { table = table; row = row })))

  all_both : (ts us : List Ty) → all_fit c ts ≡ true → all_fit c us ≡ true → all_fit c (ts ++ us) ≡ true
  all_both [] us one other = other
  all_both (t ∷ ts) us one other = let parts = and_parts (fits c t) (all_fit c ts) one in both _ _ parts.0 (all_both ts us parts.1 other)

  row_types_fit : all_fit c (row_types w.types w.tables) ≡ true
  unfolding row_types
  row_types_fit = all_both _ _ (all_both _ _ (types_in_fit 0x02) (types_in_fit 0x01)) (types_in_fit 0x1B)

  owners_fit : (column table : ℕ) → all_fit c (owners_in w.types w.tables column table) ≡ true
  unfolding owners_in
  owners_fit column table =
      types_fit c w.types ok.types (λ row. owner_type w.types (owner_of w.tables column table row)) (rows_of w.tables table)
      (λ row. owner_type_fits c w ok (owner_of w.tables column table row))

  member_keys_fit : keys_fit c (member_keys w) ≡ true
  unfolding member_keys
  member_keys_fit =
      all_of_both (key_fits c) _ _
      (all_of_both (key_fits c) _ _
      (all_of_both (key_fits c) _ _
      (keys_of_types (owners_in w.types w.tables 4 0x04) (owners_fit 4 0x04))
      (keys_of_types (owners_in w.types w.tables 5 0x06) (owners_fit 5 0x06)))
      (all_of_map (key_fits c) (λ row. Tree (ref_owner w row)) (rows_of w.tables 0x0A) (ref_owner_fits c w ok)))
      (all_of_map (key_fits c) (spec_key w) (rows_of w.tables 0x2B) (spec_key_fits c w ok))

  local_keys_by : (rows : List ℕ) → keys_fit c (flat_map (λ row. map (λ t. Tree (tree w.types t)) (listed (locals_in w.tables row))) rows) ≡ true
  local_keys_by [] = refl
  local_keys_by (row ∷ rest) =
      all_of_both (key_fits c) _ _
      (all_of_map (key_fits c) (λ t. Tree (tree w.types t)) (listed (locals_in w.tables row)) (tree_fits c w.types ok.types)) (local_keys_by rest)

  local_keys_fit : keys_fit c (local_keys w.types w.tables) ≡ true
  unfolding local_keys
  local_keys_fit = local_keys_by (rows_of w.tables 0x11)

  pub file_keys_fit : keys_fit c (file_keys w) ≡ true
  unfolding file_keys
  file_keys_fit =
      all_of_both (key_fits c) _ _
      (all_of_both (key_fits c) _ _ (all_of_both (key_fits c) _ _ (keys_of_types (row_types w.types w.tables) row_types_fit) (keys_of_arrays (row_types w.types w.tables) row_types_fit))
      member_keys_fit)
      local_keys_fit
