-- The world of files that pass their checks and are not too many is whole.
use Rattle.std.proofs.Common.{◌≡◌, ◌≢◌, if◌then◌else◌, ℕ, zero, suc, ◌+◌, ◌-◌, ◌<◌, ◌≤◌, Bool, true, List, [], ◌∷◌, ◌++◌, map, length, Option, None, Some, refl, sym, ap, ap₂, ◌∙◌, subst, arith, slice_get, replicate}
use Rattle.std.specs.Prelude.{nat_eq}
use Rattle.std.specs.Option.{option_map}
use Rattle.std.specs.List.{list_all, flat_map, enumerate_from, range_with_len, sum_by}
use Rattle.std.proofs.lemmas.Bool.{and_parts, lt-ltb, le-leb, eq-eqb, ne_eqb, eqb-true}
use Rattle.std.proofs.lemmas.List.{length-append, length-replicate}
use Rattle.std.proofs.lemmas.List.Sums.{sum_by-cons}
use Rattle.std.proofs.lemmas.List.FromFn.{length-map-range_with_len}
use Rattle.cli_sigs.specs.declared.signature.SigTy.{SigTy}
use Rattle.cli_tables.specs.Metadata.{Metadata}
use Rattle.type_tree.specs.declared.counts.Counts.{Counts}
use Rattle.type_tree.specs.declared.definition.Def.{Def}
use Rattle.type_tree.specs.declared.parts.Locals.{Locals}
use Rattle.type_tree.specs.declared.parts.WorldFile.{WorldFile}
use Rattle.type_tree.specs.Bodies.{bytes_of}
use Rattle.type_tree.specs.Fits.{def_fits, method_fits, field_fits, key_fits}
use Rattle.type_tree.specs.Tokens as tokens
use Rattle.type_tree.specs.Whole.{IsWhole, is_whole, most, are_in_order, member_fits, locals_fit, lists_fit, file_fits, place_fits}
use Rattle.world_build.specs.Bodies.{body_of, file_bodies}
use Rattle.core_types.specs.CoreLibrary as core
use Rattle.core_types.specs.CoreTable.{core_defs, core_methods}
use Rattle.image_rows.specs.Cells.{rows, rows_of}
use Rattle.type_members.specs.Definitions.{def_of}
use Rattle.image_rows.specs.Image.{metadata_in}
use Rattle.type_members.specs.MemberTable.{of_each, member_table, run_of}
use Rattle.type_members.specs.Members.{file_methods, file_fields}
use Rattle.world_build.specs.References.{member_ref, method_spec, impls_of}
use Rattle.type_names.specs.Resolution.{rows_before}
use Rattle.world_build.specs.Signatures.{well_known, file_keys, first_sig, locals_run, locals_of}
use Rattle.image_files.specs.Signatures.{locals_in, listed, row_sigs, locals_before, sigs_in}
use Rattle.world_build.specs.World.{reader, file_defs, file_of, world_file, of_bytes, no_body, world}
use Rattle.image_files.specs.Images.{tables_in}
use Rattle.type_names.specs.WorldNames.{names, file_names}
use Rattle.world_build.proofs.BodiesFit.{body_fits}
use Rattle.world_build.proofs.CoreFits.{count_of_methods, defs_fit_all, methods_fit_all, well_known_fit}
use Rattle.world_build.proofs.DefsFit.{def_of_fits, file_keys_fit}
use Rattle.type_members.proofs.FileSums.{all_rows, rows_within, of_part, all_of_each}
use Rattle.clr_base.proofs.ListFacts.{all_of_map, all_of_range, all_of_both, there_is, both}
use Rattle.type_members.proofs.MembersFit.{NamesFit, file_methods_fit, file_fields_fit}
use Rattle.type_names.proofs.NamesCount.{names_few, more_than_core}
use Rattle.type_members.proofs.NamesThere.{type_rows_fit, file_names_fit}
use Rattle.world_build.proofs.ReferencesFit.{ReaderFits, member_ref_fits, method_spec_fits, impls_of_fit}
use Rattle.world_build.proofs.RunsFit.{run_fits}
use Rattle.image_files.proofs.LocalsCount.{all_taken}
use Rattle.world_build.proofs.WorldCounts.{def_total, method_total, field_total, sig_total}
use Rattle.world_build.proofs.WorldFits.{AreFew, named_few, length_of_bytes, all_of_bytes, table_at, one_each}

-- ---- definitions stand in the order of their files

order_of_same : (file last : ℕ) (ds rest : List Def) → last ≤ file → list_all (λ d. nat_eq d.file file) ds ≡ true → are_in_order file rest ≡ true → ((n : ℕ) → n ≤ file → are_in_order n rest ≡ true)
    → are_in_order last (ds ++ rest) ≡ true
order_of_same file last [] rest low same behind any = any last low
order_of_same file last (d ∷ ds) rest low same behind any =
    let parts = and_parts (nat_eq d.file file) (list_all (λ d. nat_eq d.file file) ds) same in
    let is : d.file ≡ file = eqb-true d.file file parts.0 in
    both _ _ (le-leb last d.file (omega (arith, is, low)))
    (order_of_same file d.file ds rest (omega (arith, is)) parts.1 behind any)

module _ (ts : List Metadata) where
  files_in_order : (n last : ℕ) (ms : List Metadata) → last ≤ n + 1
      → are_in_order last (flat_map (λ ((k, m) : ℕ × Metadata). file_defs ts k m) (enumerate_from n ms)) ≡ true
  unfolding file_defs def_of
  files_in_order n last [] low = refl
  files_in_order n last (m ∷ ms) low =
      order_of_same (n + 1) last (file_defs ts n m) _ low (all_of_map (λ d. nat_eq d.file (n + 1)) _ (rows_of m 0x02) (λ row. eq-eqb (n + 1) (n + 1) refl))
      (files_in_order (n + 1) (n + 1) ms (omega arith)) (λ k few. files_in_order (n + 1) k ms (omega (arith, few)))

  core_in_order : are_in_order 0 (core.defs ++ of_each (file_defs ts) ts) ≡ true
  unfolding core.defs core.def_of
  core_in_order =
      order_of_same 0 0 core.defs (of_each (file_defs ts) ts) (omega arith) (all_of_map (λ d. nat_eq d.file 0) core.def_of (range_with_len 0 36) (λ k. refl))
      (files_in_order 0 0 ts (omega arith)) (λ k few. files_in_order 0 k ts (omega (arith, few)))

-- ---- local variables

all_enumerated : {X : Type 0} (p : X → Bool) (f : ℕ × ℕ → X) (n : ℕ) (xs : List ℕ) → ((i x : ℕ) → slice_get xs i ≡ Some x → p (f (n + i, x)) ≡ true)
    → list_all p (map f (enumerate_from n xs)) ≡ true
all_enumerated p f n [] each = refl
all_enumerated p f n (x ∷ xs) each =
    let here : n + 0 ≡ n = omega arith in
    both _ _ (subst (λ (k : ℕ). p (f (k, x)) ≡ true) here (each 0 x refl))
    (all_enumerated p f (n + 1) xs
    (λ i y e. let behind : n + suc i ≡ n + 1 + i = omega arith in subst (λ (k : ℕ). p (f (k, y)) ≡ true) behind (each (suc i) y e)))

listed_within : (m : Metadata) (n row : ℕ) → slice_get (rows_of m 0x11) n ≡ Some row → locals_before m n + length (listed (locals_in m row)) ≤ locals_before m (rows m 0x11)
unfolding locals_before
listed_within m n row e =
    let count = λ (r : ℕ). length (listed (locals_in m r)) in
    omega (arith, of_part count (rows_of m 0x11) n row e, ap (sum_by count) (all_taken m))

run_good : (c : Counts) (m : Metadata) (first n : ℕ) (o : Option (List SigTy)) → first + row_sigs m + locals_before m n + length (listed o) ≤ c.sigs
    → locals_fit c (option_map (λ (ts : List SigTy). let run : Locals = record { first = record { 0 = first + row_sigs m + locals_before m n }; count = length ts } in run) o) ≡ true
run_good c m first n None within = refl
run_good c m first n (Some ts) within = le-leb _ _ within

locals_good : (c : Counts) (m : Metadata) (first : ℕ) → first + sigs_in m ≤ c.sigs → lists_fit c (locals_of m first) ≡ true
unfolding locals_of sigs_in
locals_good c m first within =
    all_enumerated (locals_fit c) (locals_run m first) 0 (rows_of m 0x11)
    (λ n row e. let here : 0 + n ≡ n = omega arith in
    subst (λ (k : ℕ). locals_fit c (locals_run m first (k, row)) ≡ true) (sym here)
    (run_good c m first n (locals_in m row) (omega (arith, within, listed_within m n row e))))

-- ---- the whole

ones : (ms : List Metadata) → sum_by (λ m. 1) ms ≡ length ms
ones [] = refl
ones (m ∷ ms) = omega (arith, sum_by-cons (λ (m : Metadata). 1) m ms, ones ms)

file_next : (fs : List WorldFile) (k : ℕ) → tokens.file_at fs (k + 1) ≡ slice_get fs k
file_next fs k =
    let more : k + 1 ≢ 0 = omega arith in
    let back : k + 1 - 1 ≡ k = omega arith in
    ap (λ (b : Bool). if b then None else slice_get fs (k + 1 - 1)) (ne_eqb (k + 1) 0 more) ∙ ap (slice_get fs) back

none_fit : (fs : List WorldFile) (n : ℕ) → list_all (place_fits fs) (replicate n no_body) ≡ true
none_fit fs zero = refl
none_fit fs (suc n) = none_fit fs n

module _ (files : List (List ℕ)) (few : AreFew files) where
  abbrev ts : List Metadata
  ts = tables_in files

  abbrev world_files : List WorldFile
  world_files = of_bytes (λ b k m. world_file ts b k m ∷ []) 0 files

  abbrev c : Counts
  c = record {
    names = length (names ts);
    defs = length (core.defs ++ of_each (file_defs ts) ts);
    methods = length (member_table ts).methods;
    fields = length (member_table ts).fields;
    sigs = length (well_known ++ of_each (λ k m. file_keys (reader ts k m)) ts);
    files = length world_files;
  }

  some_names : 52 < c.names
  some_names = more_than_core ts

  some_defs : core_defs ≤ c.defs
  some_defs = omega (arith, def_total ts)

  some_methods : core_methods ≤ c.methods
  some_methods = omega (arith, method_total ts)

  all_defs : core_defs + all_rows ts 0x02 ≤ c.defs
  all_defs = omega (arith, def_total ts)

  -- ---- what each file is read by

  module _ (k : ℕ) (m : Metadata) (there : slice_get ts k ≡ Some m) where
    names_fit : NamesFit c (file_names ts k m)
    names_fit = file_names_fit ts c refl k m all_defs there some_names

    reader_fits : ReaderFits c (reader ts k m)
    unfolding reader
    reader_fits = record {
      types = type_rows_fit ts c refl k m all_defs there some_names;
      methods = omega arith;
      fields = omega arith;
      own = omega (arith, method_total ts, rows_within ts k 0x06 m there);
    }

    file_there : k < c.files
    file_there = omega (arith, there_is ts k m there, length_of_bytes (λ b k m. world_file ts b k m ∷ []) (λ m. 1) 0 files (λ b k m. refl), ones ts)

    file_defs_fit : list_all (def_fits c) (file_defs ts k m) ≡ true
    unfolding file_defs
    file_defs_fit =
        all_of_range (def_fits c) _ 1 (rows m 0x02)
        (λ row first last.
        def_of_fits c (file_names ts k m) m (k + 1) (run_of ts k m row) (impls_of (reader ts k m) row) row names_fit (le-leb (k + 1) c.files (omega (arith, file_there)))
        (run_fits c ts k m row (few.passed k m there) first (omega (arith, last)) (omega (arith, field_total ts, rows_within ts k 0x04 m there))
        (omega (arith, method_total ts, rows_within ts k 0x06 m there)))
        (impls_of_fit c (reader ts k m) reader_fits row))

    file_sigs_fit : list_all (key_fits c) (file_keys (reader ts k m)) ≡ true
    file_sigs_fit = file_keys_fit c (reader ts k m) reader_fits

  -- ---- all of them

  defs_all : list_all (def_fits c) (core.defs ++ of_each (file_defs ts) ts) ≡ true
  defs_all = all_of_both (def_fits c) _ _ (defs_fit_all c some_names some_defs some_methods) (all_of_each (file_defs ts) (def_fits c) ts file_defs_fit)

  methods_all : list_all (method_fits c) (member_table ts).methods ≡ true
  unfolding member_table
  methods_all =
      all_of_both (method_fits c) _ _ (methods_fit_all c some_names some_defs some_methods)
      (all_of_each (λ k m. file_methods (file_names ts k m) m) (method_fits c) ts
      (λ k m there. file_methods_fit c (file_names ts k m) m (names_fit k m there)))

  fields_all : list_all (field_fits c) (member_table ts).fields ≡ true
  unfolding member_table
  fields_all =
      all_of_each (λ k m. file_fields (file_names ts k m) m) (field_fits c) ts
      (λ k m there. file_fields_fit c (file_names ts k m) m (names_fit k m there))

  sigs_all : list_all (key_fits c) (well_known ++ of_each (λ k m. file_keys (reader ts k m)) ts) ≡ true
  sigs_all =
      all_of_both (key_fits c) _ _ (well_known_fit c some_names some_defs some_methods)
      (all_of_each (λ k m. file_keys (reader ts k m)) (key_fits c) ts file_sigs_fit)

  -- ---- files

  module _ (k : ℕ) (b : List ℕ) (m : Metadata) (there : slice_get ts k ≡ Some m) where
    sigs_within : first_sig ts k + sigs_in m ≤ c.sigs
    unfolding first_sig
    sigs_within = omega (arith, sig_total ts, of_part sigs_in ts k m there)

    row_sigs_within : tokens.row_sigs (world_file ts b k m) ≤ sigs_in m
    unfolding reader world_file file_of sigs_in row_sigs
    row_sigs_within =
        omega (arith, length-map-range_with_len (member_ref (reader ts k m)) 1 (rows m 0x0A), length-map-range_with_len (method_spec (reader ts k m)) 1 (rows m 0x2B))

    file_good : file_fits c (world_file ts b k m) ≡ true
    unfolding reader world_file file_of
    file_good =
        both _ _
        (both _ _
        (both _ _
        (both _ _
        (both _ _ (le-leb (first_sig ts k + tokens.row_sigs (world_file ts b k m)) c.sigs (omega (arith, sigs_within, row_sigs_within)))
        (le-leb (rows_before ts k 0x04 + rows m 0x04) c.fields (omega (arith, field_total ts, rows_within ts k 0x04 m there))))
        (le-leb (core_methods + rows_before ts k 0x06 + rows m 0x06) c.methods (omega (arith, method_total ts, rows_within ts k 0x06 m there))))
        (all_of_map (member_fits c) (member_ref (reader ts k m)) (rows_of m 0x0A) (member_ref_fits c (reader ts k m) (reader_fits k m there))))
        (all_of_map (member_fits c) (method_spec (reader ts k m)) (rows_of m 0x2B) (method_spec_fits c (reader ts k m) (reader_fits k m there))))
        (locals_good c m (first_sig ts k) sigs_within)

  files_all : list_all (file_fits c) world_files ≡ true
  files_all =
      all_of_bytes (λ b k m. world_file ts b k m ∷ []) (file_fits c) 0 files
      (λ k b e. let here : 0 + k ≡ k = omega arith in
      subst (λ (i : ℕ). list_all (file_fits c) (world_file ts b i (metadata_in b) ∷ []) ≡ true) (sym here)
      (both _ _ (file_good k b (metadata_in b) (table_at files k b e)) refl))

  -- ---- bodies

  file_in : (k : ℕ) (b : List ℕ) → slice_get files k ≡ Some b → bytes_of (tokens.file_at world_files (k + 1)) ≡ b
  unfolding reader world_file file_of
  file_in k b e = ap bytes_of (file_next world_files k ∙ one_each (λ b k m. world_file ts b k m) 0 files k b e)

  bodies_all : list_all (place_fits world_files) (replicate (length core.methods) no_body ++ of_bytes (λ b k m. file_bodies b (k + 1) m) 0 files) ≡ true
  unfolding file_bodies
  bodies_all =
      all_of_both (place_fits world_files) (replicate (length core.methods) no_body) (of_bytes (λ b k m. file_bodies b (k + 1) m) 0 files) (none_fit world_files (length core.methods))
      (all_of_bytes (λ b k m. file_bodies b (k + 1) m) (place_fits world_files) 0 files
      (λ k b e. let here : 0 + k ≡ k = omega arith in
      subst (λ (i : ℕ). list_all (place_fits world_files) (file_bodies b (i + 1) (metadata_in b)) ≡ true) (sym here)
      (all_of_map (place_fits world_files) (body_of b (k + 1) (metadata_in b)) (rows_of (metadata_in b) 0x06)
      (body_fits world_files (k + 1) b (file_in k b e) (metadata_in b)))))

  bodies_count : nat_eq (length (replicate (length core.methods) no_body ++ of_bytes (λ b k m. file_bodies b (k + 1) m) 0 files)) (length (member_table ts).methods) ≡ true
  unfolding file_bodies
  bodies_count =
      eq-eqb _ _
      (length-append (replicate (length core.methods) no_body) _
      ∙ ap₂ ◌+◌ (length-replicate (length core.methods) no_body ∙ count_of_methods)
      (length_of_bytes (λ b k m. file_bodies b (k + 1) m) (λ m. rows m 0x06) 0 files (λ b k m. length-map-range_with_len (body_of b (k + 1) m) 1 (rows m 0x06)))
      ∙ sym (method_total ts))

  -- ---- the counts

  names_small : length (names ts) < 4294967296
  names_small = omega (arith, names_few ts, named_few ts, few.defs, few.methods, few.fields, few.sigs)

  pub world_is_whole : IsWhole (world files)
  unfolding world is_whole
  world_is_whole =
      both _ _
      (both _ _
      (both _ _
      (both _ _
      (both _ _
      (both _ _
      (both _ _
      (both _ _
      (both _ _
      (both _ _ (le-leb c.defs most (omega (arith, def_total ts, few.defs))) (le-leb c.methods most (omega (arith, method_total ts, few.methods))))
      (le-leb c.fields most (omega (arith, field_total ts, few.fields))))
      refl)
      (le-leb c.sigs (most + 0) (omega (arith, sig_total ts, few.sigs))))
      (lt-ltb c.names 4294967296 names_small))
      (both _ _ (both _ _ (lt-ltb 1 c.defs (omega (arith, some_defs))) (lt-ltb 2 c.defs (omega (arith, some_defs)))) (lt-ltb 22 c.defs (omega (arith, some_defs)))))
      (core_in_order ts))
      (both _ _ (both _ _ (both _ _ (both _ _ defs_all methods_all) fields_all) sigs_all) refl))
      files_all)
      (both _ _ bodies_count bodies_all)
