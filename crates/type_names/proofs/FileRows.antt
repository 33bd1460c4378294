-- What the rows of a file are called, from what was made of each table.
use Rattle.std.proofs.Common.{◌≡◌, ℕ, ◌+◌, ◌<◌, ◌≤◌, List, [], ◌∷◌, ◌++◌, map, length, get_or, take, Some, refl, sym, ap, ◌∙◌, subst, arith}
use Rattle.std.specs.Prelude.{slice_get}
use Rattle.std.specs.List.{enumerate_from, flat_map, range_with_len}
use Rattle.std.specs.Str.{bytes_eq}
use Rattle.std.proofs.lemmas.List.{take_more, take_all}
use Rattle.std.proofs.lemmas.List.FromFn.{length-enumerate_from, get_or-enumerate_from, length-map-range_with_len}
use Rattle.std.proofs.lemmas.Option.{slice_get_within, get_or_from_slice_get}
use Rattle.std.proofs.lemmas.Simd.{map-map}
use Rattle.clr_base.specs.declared.ids.NameId.{NameId}
use Rattle.cli_tables.specs.Metadata.{Metadata}
use Rattle.type_names.specs.declared.file_names.FileNames.{FileNames}
use Rattle.type_names.specs.declared.type_rows.Target.{Target}
use Rattle.type_names.specs.declared.type_rows.TypeRows.{TypeRows}
use Rattle.image_rows.specs.Cells.{rows, rows_of, text}
use Rattle.core_types.specs.CoreLibrary as core
use Rattle.core_types.specs.CoreTable as table
use Rattle.core_types.specs.Names.{with_one, with_all, number_in, id_in}
use Rattle.type_names.specs.Numbering.{IsSettled, column_texts}
use Rattle.type_names.specs.Resolution.{first_def}
use Rattle.image_rows.specs.TypeNames.{full_name, name_of_ref}
use Rattle.type_names.specs.WorldNames.{all_file_names, file_names, file_names_in, file_texts, missing_refs, names, target_of_in, type_rows_in}
use Rattle.core_types.proofs.CoreNames.{names_listed}
use Rattle.type_names.proofs.Settled.{all_append, few_more, settled_on, settled_one}
use Rattle.type_names.proofs.Targets.{names_after, items_after}

-- ---- one file

module _ (files : List Metadata) (k : ℕ) (m : Metadata) where
  abbrev def_texts : List (List ℕ)
  def_texts = map (full_name m) (rows_of m 0x02)

  abbrev ref_texts : List (List ℕ)
  ref_texts = map (name_of_ref m) (missing_refs files k m)

  pub file_names_after : (old with_defs with_refs with_fields new : List (List ℕ)) → with_defs ≡ with_all bytes_eq old def_texts
      → with_refs ≡ with_all bytes_eq with_defs ref_texts → with_fields ≡ with_all bytes_eq with_refs (column_texts m 0x04 1)
      → new ≡ with_all bytes_eq with_fields (column_texts m 0x06 3) → new ≡ with_all bytes_eq old (file_texts files (k, m))
  unfolding file_texts
  file_names_after old with_defs with_refs with_fields new defs refs fields methods =
      methods ∙ ap (λ (ns : List (List ℕ)). with_all bytes_eq ns (column_texts m 0x06 3)) (fields
      ∙ ap (λ (ns : List (List ℕ)). with_all bytes_eq ns (column_texts m 0x04 1)) (refs
      ∙ ap (λ (ns : List (List ℕ)). with_all bytes_eq ns ref_texts) defs))
      ∙ sym (all_append old (def_texts ++ ref_texts ++ column_texts m 0x04 1) (column_texts m 0x06 3)
      ∙ ap (λ (ns : List (List ℕ)). with_all bytes_eq ns (column_texts m 0x06 3)) (all_append old (def_texts ++ ref_texts) (column_texts m 0x04 1)
      ∙ ap (λ (ns : List (List ℕ)). with_all bytes_eq ns (column_texts m 0x04 1)) (all_append old def_texts ref_texts)))

  made : (ns : List (List ℕ)) (first count : ℕ) (defs fields methods : List NameId) (refs : List Target) → first ≡ first_def files k → count ≡ rows m 0x02
      → defs ≡ map (id_in ns) def_texts → refs ≡ map (target_of_in ns files k m) (rows_of m 0x01) → fields ≡ map (id_in ns) (column_texts m 0x04 1)
      → methods ≡ map (id_in ns) (column_texts m 0x06 3)
      → record { defs = defs; types = record { first_def = first; defs = count; refs = refs }; fields = fields; methods = methods } ≡ file_names_in ns files k m
  unfolding file_names_in type_rows_in
  made ns first count defs fields methods refs first_is count_is defs_are refs_are fields_are methods_are =
      let types : ◌≡◌ {A = TypeRows} (record { first_def = first; defs = count; refs = refs }) (record {
        first_def = first_def files k;
        defs = rows m 0x02;
        refs = map (target_of_in ns files k m) (rows_of m 0x01);
      }) = cc in
      let by_row : defs ≡ map (λ row. id_in ns (full_name m row)) (rows_of m 0x02) = defs_are ∙ map-map (id_in ns) (full_name m) (rows_of m 0x02) in
      let field_by_row : fields ≡ map (λ row. id_in ns (text m 0x04 row 1)) (rows_of m 0x04) =
      fields_are ∙ map-map (id_in ns) (λ (row : ℕ). text m 0x04 row 1) (rows_of m 0x04) in
      let method_by_row : methods ≡ map (λ row. id_in ns (text m 0x06 row 3)) (rows_of m 0x06) =
      methods_are ∙ map-map (id_in ns) (λ (row : ℕ). text m 0x06 row 3) (rows_of m 0x06) in
      cc

  after : {A : Type 0} (of : List (List ℕ) → A) (x : A) (before new texts : List (List ℕ)) → IsSettled before of x → new ≡ with_all bytes_eq before texts → IsSettled new of x
  after of x before new texts settled e = subst (λ (ns : List (List ℕ)). IsSettled ns of x) (sym e) (settled_on of before texts x settled)

  pub file_settled : (with_defs with_refs with_fields new : List (List ℕ)) → with_refs ≡ with_all bytes_eq with_defs ref_texts
      → with_fields ≡ with_all bytes_eq with_refs (column_texts m 0x04 1) → new ≡ with_all bytes_eq with_fields (column_texts m 0x06 3)
      → (first count : ℕ) (defs fields methods : List NameId) (refs : List Target) → first ≡ first_def files k → count ≡ rows m 0x02
      → IsSettled with_defs (λ ns. map (id_in ns) def_texts) defs → IsSettled with_refs (λ ns. map (target_of_in ns files k m) (rows_of m 0x01)) refs
      → IsSettled with_fields (λ ns. map (id_in ns) (column_texts m 0x04 1)) fields → IsSettled new (λ ns. map (id_in ns) (column_texts m 0x06 3)) methods
      → IsSettled new (λ ns. file_names_in ns files k m)
      (record { defs = defs; types = record { first_def = first; defs = count; refs = refs }; fields = fields; methods = methods })
  file_settled with_defs with_refs with_fields new refs_more fields_more methods_more first count defs fields methods refs first_is count_is def_ids ref_ids field_ids method_ids =
      let on_refs = after (λ ns. map (id_in ns) def_texts) defs with_defs with_refs ref_texts def_ids refs_more in
      let on_fields = after (λ ns. map (id_in ns) def_texts) defs with_refs with_fields (column_texts m 0x04 1) on_refs fields_more in
      let defs_last = after (λ ns. map (id_in ns) def_texts) defs with_fields new (column_texts m 0x06 3) on_fields methods_more in
      let refs_on = after (λ ns. map (target_of_in ns files k m) (rows_of m 0x01)) refs with_refs with_fields (column_texts m 0x04 1) ref_ids fields_more in
      let refs_last = after (λ ns. map (target_of_in ns files k m) (rows_of m 0x01)) refs with_fields new (column_texts m 0x06 3) refs_on methods_more in
      let fields_last = after (λ ns. map (id_in ns) (column_texts m 0x04 1)) fields with_fields new (column_texts m 0x06 3) field_ids methods_more in
      record {
        is = λ more.
            made (with_all bytes_eq new more) first count defs fields methods refs first_is count_is (defs_last.is more) (refs_last.is more) (fields_last.is more)
            (method_ids.is more);
      }

-- ---- all files

module _ (files : List Metadata) where
  file_read : (k : ℕ) (m : Metadata) → slice_get files k ≡ Some m → take (k + 1) (enumerate_from 0 files) ≡ take k (enumerate_from 0 files) ++ (k, m) ∷ []
  file_read k m there =
      let inside = slice_get_within files k m there in
      let within : k < length (enumerate_from 0 files) = omega (arith, length-enumerate_from 0 files) in
      let place : 0 + k ≡ k = omega arith in
      let read : get_or files k m ≡ m = get_or_from_slice_get files k m m there in
      take_more (enumerate_from 0 files) k (0, m) within
      ∙ ap (λ (f : ℕ × Metadata). take k (enumerate_from 0 files) ++ f ∷ [])
      (get_or-enumerate_from 0 files k (0, m) inside ∙ ap (λ (x : Metadata). (0 + k, x)) read ∙ ap (λ (i : ℕ). (i, m)) place)

  pub names_file : (k : ℕ) (m : Metadata) (old names new : List (List ℕ)) → slice_get files k ≡ Some m
      → names ≡ with_all bytes_eq old (flat_map (file_texts files) (take k (enumerate_from 0 files))) → new ≡ with_all bytes_eq names (file_texts files (k, m))
      → new ≡ with_all bytes_eq old (flat_map (file_texts files) (take (k + 1) (enumerate_from 0 files)))
  names_file k m old names new there before e =
      names_after (file_texts files) old names new (take k (enumerate_from 0 files)) (take (k + 1) (enumerate_from 0 files)) (k, m) (file_read k m there) before e

  pub rows_file : (k : ℕ) (m : Metadata) (names new : List (List ℕ)) (rows longer : List FileNames) (one : FileNames) → slice_get files k ≡ Some m
      → IsSettled names (λ ns. map (λ f. file_names_in ns files f.0 f.1) (take k (enumerate_from 0 files))) rows
      → new ≡ with_all bytes_eq names (file_texts files (k, m)) → IsSettled new (λ ns. file_names_in ns files k m) one → longer ≡ rows ++ one ∷ []
      → IsSettled new (λ ns. map (λ f. file_names_in ns files f.0 f.1) (take (k + 1) (enumerate_from 0 files))) longer
  rows_file k m names new rows longer one there before e last pushed =
      items_after (λ ns f. file_names_in ns files f.0 f.1) names new (file_texts files (k, m)) (take k (enumerate_from 0 files)) (take (k + 1) (enumerate_from 0 files))
      (k, m) rows longer one (file_read k m there) before e last pushed

  all_taken : (n : ℕ) → n ≡ length files → take n (enumerate_from 0 files) ≡ enumerate_from 0 files
  all_taken n all =
      let enough : length (enumerate_from 0 files) ≤ n = omega (arith, length-enumerate_from 0 files) in
      take_all n (enumerate_from 0 files) enough

  -- the core's names, the empty one, and then the files'
  names_split : names files ≡ with_all bytes_eq (with_one bytes_eq core.names []) (flat_map (file_texts files) (enumerate_from 0 files))
  unfolding names core.names
  names_split =
      all_append [] (core.texts_in_order ++ [] ∷ []) (flat_map (file_texts files) (enumerate_from 0 files))
      ∙ ap (λ (ns : List (List ℕ)). with_all bytes_eq ns (flat_map (file_texts files) (enumerate_from 0 files)))
      (all_append [] core.texts_in_order ([] ∷ []))

  pub names_all : (n : ℕ) (first last : List (List ℕ)) → n ≡ length files → first ≡ with_one bytes_eq core.names []
      → last ≡ with_all bytes_eq first (flat_map (file_texts files) (take n (enumerate_from 0 files))) → last ≡ names files
  names_all n first last all begun e =
      e ∙ ap (λ (ns : List (List ℕ)). with_all bytes_eq ns (flat_map (file_texts files) (take n (enumerate_from 0 files)))) begun
      ∙ ap (λ (fs : List (ℕ × Metadata)). with_all bytes_eq (with_one bytes_eq core.names []) (flat_map (file_texts files) fs)) (all_taken n all)
      ∙ sym names_split

  pub rows_all : (n : ℕ) (last : List (List ℕ)) (rows : List FileNames) → n ≡ length files → last ≡ names files
      → IsSettled last (λ ns. map (λ f. file_names_in ns files f.0 f.1) (take n (enumerate_from 0 files))) rows → rows ≡ all_file_names files
  unfolding all_file_names
  rows_all n last rows all named settled =
      settled.is [] ∙ ap (λ (ns : List (List ℕ)). map (λ f. file_names_in ns files f.0 f.1) (take n (enumerate_from 0 files))) named
      ∙ ap (map (λ f. file_names files f.0 f.1)) (all_taken n all)

-- ---- the core's names and the empty one

pub core_count : length core.names ≡ 52
core_count = sym (ap length names_listed) ∙ length-map-range_with_len table.text 0 52

pub begun_few : (first core_names : List (List ℕ)) → core_names ≡ core.names → first ≡ with_one bytes_eq core_names [] → length first ≤ 53
begun_few first core_names are e = omega (arith, ap length e, few_more core_names ([] ∷ []), ap length are, core_count)

empty_last : number_in core.names [] ≡ 52
unfolding table.text
empty_last = let computed : number_in (map table.text (range_with_len 0 52)) [] ≡ 52 = refl in ap (λ (ns : List (List ℕ)). number_in ns []) (sym names_listed) ∙ computed

-- the empty name has the number 52 in each world
pub empty_is : (files : List Metadata) → number_in (names files) [] ≡ 52
empty_is files =
    let settled = settled_one core.names [] (record { 0 = number_in core.names [] }) refl in
    ap (λ (ns : List (List ℕ)). number_in ns []) (names_split files)
    ∙ sym (ap (λ (id : NameId). id.0) (settled.is (flat_map (file_texts files) (enumerate_from 0 files))))
    ∙ empty_last
