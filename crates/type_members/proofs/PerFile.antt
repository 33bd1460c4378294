-- What stands for each file: its names, and how many rows stand before its own.
use Rattle.std.proofs.Common.{◌≡◌, ℕ, ◌+◌, ◌*◌, ◌<◌, ◌≤◌, List, length, Some, get_or, refl, sym, ap, ◌∙◌, subst, arith}
use Rattle.std.specs.Prelude.{slice_get}
use Rattle.std.specs.List.{enumerate_from}
use Rattle.std.proofs.lemmas.List.{get_or-map, length-map}
use Rattle.std.proofs.lemmas.List.FromFn.{length-enumerate_from, get_or-enumerate_from}
use Rattle.std.proofs.lemmas.List.Sums.{sum_by_more}
use Rattle.std.proofs.lemmas.Option.{slice_get_within, get_or_from_slice_get}
use Rattle.cli_tables.specs.Metadata.{Metadata}
use Rattle.type_names.specs.declared.file_names.FileNames.{FileNames}
use Rattle.image_rows.specs.Cells.{rows}
use Rattle.type_names.specs.Resolution.{rows_before}
use Rattle.type_members.specs.Trees.{AreNumbered}
use Rattle.type_names.specs.WorldNames.{all_file_names, file_names, file_names_in, type_rows_in}

-- each file has its names
pub names_count : (files : List Metadata) (names : List FileNames) → names ≡ all_file_names files → length names ≡ length files
unfolding all_file_names
names_count files names are =
    ap length are ∙ length-map (enumerate_from 0 files) (λ (f : ℕ × Metadata). file_names files f.0 f.1) ∙ length-enumerate_from 0 files

pub names_read : (files : List Metadata) (k : ℕ) (m : Metadata) (names : List FileNames) (n d : FileNames) → slice_get files k ≡ Some m
    → names ≡ all_file_names files → n ≡ get_or names k d → n ≡ file_names files k m
unfolding all_file_names
names_read files k m names n d there are read =
    let inside = slice_get_within files k m there in
    let within : k < length (enumerate_from 0 files) = omega (arith, length-enumerate_from 0 files) in
    let place : 0 + k ≡ k = omega arith in
    read ∙ ap (λ (ns : List FileNames). get_or ns k d) are
    ∙ get_or-map (λ (f : ℕ × Metadata). file_names files f.0 f.1) (enumerate_from 0 files) k (0, m) d within
    ∙ ap (λ (f : ℕ × Metadata). file_names files f.0 f.1) (get_or-enumerate_from 0 files k (0, m) inside)
    ∙ ap (λ (x : Metadata). file_names files (0 + k) x) (get_or_from_slice_get files k m m there)
    ∙ ap (λ (i : ℕ). file_names files i m) place

-- the rows of one file more
pub before_more : (files : List Metadata) (k table : ℕ) (m : Metadata) → slice_get files k ≡ Some m
    → rows_before files (k + 1) table ≡ rows_before files k table + rows m table
unfolding rows_before
before_more files k table m there =
    sum_by_more (λ (x : Metadata). rows x table) files k m (slice_get_within files k m there)
    ∙ ap (λ (x : Metadata). rows_before files k table + rows x table) (get_or_from_slice_get files k m m there)

pub before_none : (files : List Metadata) (table : ℕ) → rows_before files 0 table ≡ 0
unfolding rows_before
before_none files table = refl

-- the definitions of a file are numbered, where no file has more than a coded index can name
pub names_numbered : (files : List Metadata) (k : ℕ) (m : Metadata) (n : FileNames) → n ≡ file_names files k m → k < 16
    → rows_before files k 0x02 ≤ 16777215 * k → rows m 0x02 ≤ 16777215 → AreNumbered n.types
unfolding file_names_in type_rows_in
names_numbered files k m n is few before own =
    subst (λ (x : FileNames). AreNumbered x.types) (sym is) (omega (arith, few, before, own))
