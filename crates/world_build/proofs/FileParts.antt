-- What a file adds to a world is what the definition says, and its numbers are small.
use Rattle.std.proofs.Common.{◌≡◌, ℕ, zero, suc, ◌+◌, ◌<◌, ◌≤◌, true, List, [], ◌∷◌, ◌++◌, map, take, length, Some, sym, ap, ap₂, ◌∙◌, subst, arith, slice_get}
use Rattle.std.proofs.lemmas.List.{length-append}
use Rattle.cli_tables.specs.Metadata.{Metadata}
use Rattle.type_tree.specs.declared.definition.Def.{Def}
use Rattle.type_tree.specs.declared.tree.Key.{Key}
use Rattle.type_names.specs.declared.file_names.FileNames.{FileNames}
use Rattle.type_members.specs.declared.member_index.MemberIndex.{MemberIndex}
use Rattle.type_members.specs.declared.member_table.MemberTable.{MemberTable}
use Rattle.type_names.specs.declared.type_rows.TypeRows.{TypeRows}
use Rattle.image_rows.specs.Cells.{rows, rows_of}
use Rattle.image_files.specs.Counts.{are_few, totals_of}
use Rattle.core_types.specs.CoreTable.{core_methods}
use Rattle.type_members.specs.Definitions.{def_of}
use Rattle.image_rows.specs.Image.{metadata_in}
use Rattle.type_members.specs.MemberIndexes.{IsIndexOf}
use Rattle.type_members.specs.MemberTable.{member_table, of_each, run_at}
use Rattle.world_build.specs.Readers.{CanRead}
use Rattle.world_build.specs.References.{Reader, impls_of}
use Rattle.type_names.specs.Resolution.{rows_before}
use Rattle.world_build.specs.Signatures.{file_keys, first_sig}
use Rattle.image_files.specs.Signatures.{sigs_in}
use Rattle.type_members.specs.Trees.{AreNumbered}
use Rattle.world_build.specs.World.{reader, file_defs, file_of, world_file}
use Rattle.image_files.specs.Images.{tables_in}
use Rattle.type_names.specs.WorldNames.{names, file_names, file_names_in, type_rows, type_rows_in}
use Rattle.image_files.proofs.FewEnough.{AreBelow, are_below}
use Rattle.type_members.proofs.FileSums.{length_of_each, of_part, rows_within}
use Rattle.type_names.proofs.NamesCount.{names_few}
use Rattle.world_build.proofs.WorldCounts.{file_keys_count, reader_tables}
use Rattle.world_build.proofs.WorldFits.{named_few, table_at}

-- ---- a file's bytes and its metadata

pub slice_get_map : {X Y : Type 0} (f : X → Y) (xs : List X) (k : ℕ) (x : X) → slice_get xs k ≡ Some x → slice_get (map f xs) k ≡ Some (f x)
slice_get_map f [] k x e = absurd cc
slice_get_map f (y ∷ ys) zero x e = let same : y ≡ x = cc in ap (λ z. Some (f z)) same
slice_get_map f (y ∷ ys) (suc k) x e = slice_get_map f ys k x e

pub image_is : (bytes : List (List ℕ)) (files : List Metadata) (k : ℕ) (b : List ℕ) (m : Metadata) → files ≡ tables_in bytes
    → slice_get bytes k ≡ Some b → slice_get files k ≡ Some m → m ≡ metadata_in b
image_is bytes files k b m are there own =
    let one : slice_get (tables_in bytes) k ≡ Some m = sym (ap (λ (ms : List Metadata). slice_get ms k) are) ∙ own in
    let other = table_at bytes k b there in
    cc

-- ---- small numbers

module _ (files : List Metadata) (few : are_few (totals_of files) ≡ true) where
  totals : AreBelow (totals_of files)
  totals = are_below (totals_of files) few

  pub names_small : length (names files) < 4294967296
  unfolding totals_of
  names_small = let t = totals in omega (arith, t.defs, t.methods, t.fields, t.sigs, names_few files, named_few files)

  module _ (k : ℕ) (m : Metadata) (there : slice_get files k ≡ Some m) where
    pub fields_small : rows_before files k 0x04 + rows m 0x04 ≤ 16777215
    unfolding totals_of
    fields_small = let t = totals in omega (arith, t.fields, rows_within files k 0x04 m there)

    pub methods_small : core_methods + (rows_before files k 0x06 + rows m 0x06) ≤ 16777215
    unfolding totals_of
    methods_small = let t = totals in omega (arith, t.methods, rows_within files k 0x06 m there)

    pub sigs_small : first_sig files k + sigs_in m ≤ 16777215
    unfolding totals_of first_sig
    sigs_small = let t = totals in omega (arith, t.sigs, of_part sigs_in files k m there)

    pub numbered : (n : FileNames) → n ≡ file_names files k m → AreNumbered n.types
    unfolding totals_of file_names_in type_rows_in
    numbered n is =
        let t = totals in
        subst (λ (x : FileNames). AreNumbered x.types) (sym is) (omega (arith, t.defs, rows_within files k 0x02 m there))

    pub can_read : (ns : List (List ℕ)) (members : MemberTable) (index : MemberIndex) (n : FileNames) (first : ℕ) → ns ≡ names files
        → n ≡ file_names files k m → first ≡ core_methods + rows_before files k 0x06 → IsIndexOf members index → CanRead ns members index n.types m first
    can_read ns members index n first named called own found = record {
      named = let count = ap length named in omega (arith, count, names_small);
      numbered = numbered n called;
      methods = omega (arith, own, methods_small);
      found = found;
    }

-- ---- what the file adds

abbrev pub reader_of : List (List ℕ) → MemberTable → TypeRows → Metadata → ℕ → Reader
reader_of ns members types m first = record { names = ns; members = members; types = types; tables = m; first_method = first }

abbrev pub defs_by : FileNames → Reader → ℕ → ℕ → ℕ → List Def
defs_by n w file f g = map (λ row. def_of n w.tables file (run_at f g w.tables row) (impls_of w row) row) (rows_of w.tables 0x02)

module _ (files : List Metadata) (k : ℕ) (m : Metadata) where
  pub reader_is : (ns : List (List ℕ)) (members : MemberTable) (n : FileNames) (first : ℕ) → ns ≡ names files → members ≡ member_table files
      → n ≡ file_names files k m → first ≡ core_methods + rows_before files k 0x06
      → reader_of ns members n.types m first ≡ reader files k m
  unfolding reader file_names_in
  reader_is ns members n first named owned called own =
      ap (λ (x : List (List ℕ)). reader_of x members n.types m first) named ∙ ap (λ (x : MemberTable). reader_of (names files) x n.types m first) owned
      ∙ ap (λ (x : FileNames). reader_of (names files) (member_table files) x.types m first) called
      ∙ ap (λ (x : ℕ). reader_of (names files) (member_table files) (type_rows files k m) m x) own

  pub defs_are : (n : FileNames) (w : Reader) (f g : ℕ) → n ≡ file_names files k m → w ≡ reader files k m → f ≡ rows_before files k 0x04
      → g ≡ rows_before files k 0x06
      → defs_by n w (k + 1) f g ≡ file_defs files k m
  unfolding reader file_defs
  defs_are n w f g called is fields methods =
      ap (λ (x : FileNames). defs_by x w (k + 1) f g) called ∙ ap (λ (x : Reader). defs_by (file_names files k m) x (k + 1) f g) is
      ∙ ap₂ (λ (x y : ℕ). defs_by (file_names files k m) (reader files k m) (k + 1) x y) fields methods

  pub tokens_are : (w : Reader) (bytes : List ℕ) (sig f g : ℕ) → w ≡ reader files k m → sig ≡ first_sig files k → f ≡ rows_before files k 0x04
      → g ≡ rows_before files k 0x06 → file_of w bytes sig f (core_methods + g) ≡ world_file files bytes k m
  unfolding world_file
  tokens_are w bytes sig f g is first fields methods =
      ap (λ (x : Reader). file_of x bytes sig f (core_methods + g)) is ∙ ap (λ (x : ℕ). file_of (reader files k m) bytes x f (core_methods + g)) first
      ∙ ap₂ (λ (x y : ℕ). file_of (reader files k m) bytes (first_sig files k) x (core_methods + y)) fields methods

-- ---- how many signatures stand before a file's

pub sigs_before : (files : List Metadata) (k : ℕ) (before now : List Key) → length before ≡ 3
    → now ≡ before ++ of_each (λ k m. file_keys (reader files k m)) (take k files) → length now ≡ first_sig files k
unfolding first_sig
sigs_before files k before now three done =
    let keys = length_of_each (λ k m. file_keys (reader files k m)) sigs_in (take k files) (λ k m. file_keys_count (reader files k m) ∙ ap sigs_in (reader_tables files k m)) in
    let all = ap length done ∙ length-append before (of_each (λ k m. file_keys (reader files k m)) (take k files)) in
    omega (arith, three, keys, all)
