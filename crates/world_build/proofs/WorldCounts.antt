-- How many definitions, methods, fields and signatures a world has.
use Rattle.std.proofs.Common.{◌≡◌, ℕ, ◌+◌, List, [], ◌∷◌, ◌++◌, map, length, refl, sym, ap, ap₂, ◌∙◌, arith}
use Rattle.std.specs.List.{flat_map, sum_by}
use Rattle.std.proofs.lemmas.List.{length-append, length-map}
use Rattle.std.proofs.lemmas.List.FromFn.{length-map-range_with_len}
use Rattle.std.proofs.lemmas.List.Sums.{sum_by-cons}
use Rattle.cli_tables.specs.Metadata.{Metadata}
use Rattle.type_tree.specs.declared.tree.Key.TheVariants.{Tree}
use Rattle.type_tree.specs.declared.tree.Ty.TheVariants as ty
use Rattle.type_names.specs.declared.type_rows.TypeRows.{TypeRows}
use Rattle.core_types.specs.CoreLibrary as core
use Rattle.core_types.specs.CoreTable.{core_defs, core_methods}
use Rattle.image_rows.specs.Cells.{rows, rows_of}
use Rattle.type_members.specs.MemberTable.{of_each, member_table}
use Rattle.type_members.specs.Members.{file_methods, file_fields}
use Rattle.world_build.specs.References.{Reader, spec_key}
use Rattle.world_build.specs.Signatures.{well_known, types_in, row_types, owners_in, member_keys, local_keys, file_keys}
use Rattle.image_files.proofs.LocalsCount.{all_taken}
use Rattle.image_files.specs.Signatures.{locals_in, listed, row_sigs, locals_before, sigs_in}
use Rattle.type_members.specs.Trees.{tree}
use Rattle.world_build.specs.World.{reader, file_defs}
use Rattle.type_names.specs.WorldNames.{file_names}
use Rattle.world_build.proofs.CoreFits.{count_of_defs, count_of_methods}
use Rattle.type_members.proofs.FileSums.{all_rows, length_of_each}

-- ---- definitions, methods, fields

pub def_total : (files : List Metadata) → length (core.defs ++ of_each (file_defs files) files) ≡ core_defs + all_rows files 0x02
unfolding file_defs
def_total files =
    length-append core.defs (of_each (file_defs files) files)
    ∙ ap₂ ◌+◌ count_of_defs (length_of_each (file_defs files) (λ m. rows m 0x02) files (λ k m. length-map-range_with_len _ 1 (rows m 0x02)))

pub method_total : (files : List Metadata) → length (member_table files).methods ≡ core_methods + all_rows files 0x06
unfolding member_table file_methods
method_total files =
    length-append core.methods (of_each (λ k m. file_methods (file_names files k m) m) files)
    ∙ ap₂ ◌+◌ count_of_methods
    (length_of_each (λ k m. file_methods (file_names files k m) m) (λ m. rows m 0x06) files (λ k m. length-map-range_with_len _ 1 (rows m 0x06)))

pub field_total : (files : List Metadata) → length (member_table files).fields ≡ all_rows files 0x04
unfolding member_table file_fields
field_total files =
    length_of_each (λ k m. file_fields (file_names files k m) m) (λ m. rows m 0x04) files (λ k m. length-map-range_with_len _ 1 (rows m 0x04))

-- ---- signatures

types_count : (w : Reader) (table : ℕ) → length (types_in w.types w.tables table) ≡ rows w.tables table
unfolding types_in
types_count w table = length-map-range_with_len _ 1 (rows w.tables table)

row_types_count : (w : Reader) → length (row_types w.types w.tables) ≡ rows w.tables 0x02 + rows w.tables 0x01 + rows w.tables 0x1B
unfolding row_types
row_types_count w =
    length-append (types_in w.types w.tables 0x02 ++ types_in w.types w.tables 0x01) (types_in w.types w.tables 0x1B)
    ∙ ap₂ ◌+◌ (length-append (types_in w.types w.tables 0x02) (types_in w.types w.tables 0x01) ∙ ap₂ ◌+◌ (types_count w 0x02) (types_count w 0x01)) (types_count w 0x1B)

owners_count : (s : TypeRows) (m : Metadata) (column table : ℕ) → length (map Tree (owners_in s m column table)) ≡ rows m table
unfolding owners_in
owners_count s m column table = length-map (owners_in s m column table) Tree ∙ length-map-range_with_len _ 1 (rows m table)

member_keys_count : (w : Reader) → length (member_keys w) ≡ rows w.tables 0x04 + rows w.tables 0x06 + rows w.tables 0x0A + rows w.tables 0x2B
unfolding member_keys
member_keys_count w =
    length-append _ _
    ∙ ap₂ ◌+◌
    (length-append _ _
    ∙ ap₂ ◌+◌
    (length-append _ _ ∙ ap₂ ◌+◌ (owners_count w.types w.tables 4 0x04) (owners_count w.types w.tables 5 0x06))
    (length-map-range_with_len _ 1 (rows w.tables 0x0A)))
    (length-map-range_with_len (spec_key w) 1 (rows w.tables 0x2B))

listed_sum : (w : Reader) (rows : List ℕ)
    → length (flat_map (λ row. map (λ t. Tree (tree w.types t)) (listed (locals_in w.tables row))) rows) ≡ sum_by (λ row. length (listed (locals_in w.tables row))) rows
listed_sum w [] = refl
listed_sum w (row ∷ rest) =
    length-append (map (λ t. Tree (tree w.types t)) (listed (locals_in w.tables row))) _
    ∙ ap₂ ◌+◌ (length-map (listed (locals_in w.tables row)) (λ t. Tree (tree w.types t))) (listed_sum w rest)
    ∙ sym (sum_by-cons (λ row. length (listed (locals_in w.tables row))) row rest)

local_keys_count : (w : Reader) → length (local_keys w.types w.tables) ≡ locals_before w.tables (rows w.tables 0x11)
unfolding local_keys locals_before
local_keys_count w =
    listed_sum w (rows_of w.tables 0x11) ∙ ap (sum_by (λ row. length (listed (locals_in w.tables row)))) (sym (all_taken w.tables))

pub file_keys_count : (w : Reader) → length (file_keys w) ≡ sigs_in w.tables
unfolding file_keys sigs_in row_sigs
file_keys_count w =
    let types = length-map (row_types w.types w.tables) Tree in
    let arrays = length-map (row_types w.types w.tables) (λ t. Tree (ty.Array t)) in
    let one = length-append (map Tree (row_types w.types w.tables)) (map (λ t. Tree (ty.Array t)) (row_types w.types w.tables)) in
    let two = length-append (map Tree (row_types w.types w.tables) ++ map (λ t. Tree (ty.Array t)) (row_types w.types w.tables)) (member_keys w) in
    let three = length-append (map Tree (row_types w.types w.tables) ++ map (λ t. Tree (ty.Array t)) (row_types w.types w.tables) ++ member_keys w) (local_keys w.types w.tables) in
    omega (arith, types, arrays, one, two, three, row_types_count w, member_keys_count w, local_keys_count w)

pub reader_tables : (files : List Metadata) (k : ℕ) (m : Metadata) → (reader files k m).tables ≡ m
unfolding reader
reader_tables files k m = refl

pub sig_total : (files : List Metadata) → length (well_known ++ of_each (λ k m. file_keys (reader files k m)) files) ≡ 3 + sum_by sigs_in files
unfolding well_known
sig_total files =
    length-append well_known (of_each (λ k m. file_keys (reader files k m)) files)
    ∙ ap (λ (n : ℕ). 3 + n)
    (length_of_each (λ k m. file_keys (reader files k m)) sigs_in files (λ k m. file_keys_count (reader files k m) ∙ ap sigs_in (reader_tables files k m)))
