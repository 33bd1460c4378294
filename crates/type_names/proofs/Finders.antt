-- What finds types is made file by file.
use Rattle.std.proofs.Common.{◌≡◌, ℕ, zero, suc, ◌+◌, ◌<◌, ◌≤◌, ◌⊎◌, inl, inr, List, [], ◌∷◌, ◌++◌, map, length, get_or, take, Option, Some, refl, sym, ap, ap₂, ◌∙◌, subst, arith, length-append}
use Rattle.std.specs.Prelude.{slice_get}
use Rattle.std.specs.List.{enumerate_from}
use Rattle.std.proofs.lemmas.List.{length-map, map-append, take_all, take_more}
use Rattle.std.proofs.lemmas.List.FromFn.{get_or-enumerate_from, get_or-map-range_with_len, length-enumerate_from, length-map-range_with_len}
use Rattle.std.proofs.lemmas.Option.{get_or_from_slice_get, slice_get_within, slice_get_cases}
use Rattle.clr_base.specs.declared.ids.NameId.{NameId}
use Rattle.cli_tables.specs.Metadata.{Metadata}
use Rattle.type_names.specs.declared.resolution.DefPlace.{DefPlace}
use Rattle.type_names.specs.declared.type_keys.FirstPlaces.{FirstPlaces}
use Rattle.type_names.specs.declared.type_texts.CoreTexts.{CoreTexts}
use Rattle.type_names.specs.declared.type_texts.FileTexts.{FileTexts}
use Rattle.image_rows.specs.Cells.{rows, text}
use Rattle.image_rows.specs.Nesting.{enclosing_row}
use Rattle.type_names.specs.Numbering.{column_texts}
use Rattle.type_names.specs.Resolution.{all_places, places_in, core_namespace, core_type_name}
use Rattle.core_types.specs.Names.{id_in}
use Rattle.type_names.specs.TypeFinders.{AreDefs, AreIndexed, AreSized, AreTexts, FindsDefs, FindsKeys, FindsTypes}
use Rattle.type_names.specs.TypeKeys.{Finds, keys_of}
use Rattle.image_rows.specs.TypeNames.{def_name, def_namespace}
use Rattle.type_names.specs.TypeTexts.{AreCoreTexts, AreFileTexts, AreNumbers, Extends, in_order}
use Rattle.type_names.proofs.FindTypes.{finds_types}
use Rattle.type_names.proofs.Settled.{settled_now}
use Rattle.type_names.proofs.TextNumbers.{file_on}

-- ---- one item more

module _ {Y : Type 0} where
  pub pushed_at : (ys : List Y) (y z : Y) (k : ℕ) → slice_get (ys ++ y ∷ []) k ≡ Some z → (slice_get ys k ≡ Some z) ⊎ ((k ≡ length ys) × (y ≡ z))
  pushed_at [] y z zero e = let same : y ≡ z = cc in inr (refl, same)
  pushed_at [] y z (suc k) e = absurd cc
  pushed_at (x ∷ ys) y z zero e = inl e
  pushed_at (x ∷ ys) y z (suc k) e =
      elim (pushed_at ys y z k e) [
        | inl before ↦ inl before
        | inr last ↦ let place : suc k ≡ length (x ∷ ys) = omega (arith, last.0) in inr (place, last.1)
      ]

  pub pushed_count : (ys longer : List Y) (y : Y) (n : ℕ) → length ys ≡ n → longer ≡ ys ++ y ∷ [] → length longer ≡ n + 1
  pushed_count ys longer y n count e = omega (arith, count, ap length e, length-append ys (y ∷ []))

-- the same file
same_file : (files : List Metadata) (k n : ℕ) (m d : Metadata) → slice_get files k ≡ Some m → k ≡ n → d ≡ get_or files n d → d ≡ m
same_file files k n m d there place read =
    read ∙ ap (λ (i : ℕ). get_or files i d) (sym place) ∙ get_or_from_slice_get files k m d there

-- ---- texts

-- those of the first files
pub record AreTextsOf (names : List (List ℕ)) (files : List Metadata) (n : ℕ) (found : List FileTexts) : Type 0 where
  pub count : length found ≡ n
  pub each : (k : ℕ) (m : Metadata) (t : FileTexts) → slice_get files k ≡ Some m → slice_get found k ≡ Some t → AreFileTexts names m t

pub texts_none : (names : List (List ℕ)) (files : List Metadata) (texts : List FileTexts) → texts ≡ [] → AreTextsOf names files 0 texts
texts_none names files texts e = record {
  count = ap length e;
  each = λ k m t there here. let none = sym (ap (λ (l : List FileTexts). slice_get l k) e) ∙ here in absurd cc;
}

pub texts_more : (old new : List (List ℕ)) (files : List Metadata) (n : ℕ) (texts longer : List FileTexts) (m : Metadata) (t : FileTexts) → AreTextsOf old files n texts
    → Extends old new → m ≡ get_or files n m → AreFileTexts new m t → longer ≡ texts ++ t ∷ [] → AreTextsOf new files (n + 1) longer
texts_more old new files n texts longer m t before more read last e = record {
  count = pushed_count texts longer t n before.count e;
  each = λ k m' t' there here.
      elim (pushed_at texts t t' k (sym (ap (λ (l : List FileTexts). slice_get l k) e) ∙ here)) [
        | inl held ↦ file_on old new m' t' more (before.each k m' t' there held)
        | inr added ↦
            subst (λ (x : FileTexts). AreFileTexts new m' x) added.1
            (subst (λ (x : Metadata). AreFileTexts new x t) (same_file files k n m' m there (added.0 ∙ before.count) read) last)
      ];
}

pub texts_all : (names : List (List ℕ)) (files : List Metadata) (n : ℕ) (texts : List FileTexts) → n ≡ length files → AreTextsOf names files n texts → AreTexts names files texts
texts_all names files n texts all before = record { count = before.count ∙ all; each = before.each }

numbers_count : (names texts : List (List ℕ)) (ids : List NameId) → AreNumbers names texts ids → length ids ≡ length texts
numbers_count names texts ids are = ap length (settled_now (λ ns. map (id_in ns) texts) names ids are.settled) ∙ length-map texts (id_in names)

column_count : (m : Metadata) (column : ℕ) → length (column_texts m 0x02 column) ≡ rows m 0x02
column_count m column = length-map-range_with_len (λ r. text m 0x02 r column) 1 (rows m 0x02)

pub texts_sized : (names : List (List ℕ)) (files : List Metadata) (texts : List FileTexts) → AreTexts names files texts → AreSized files texts
texts_sized names files texts are = record {
  count = are.count;
  namespaces = λ k m t there here.
      numbers_count names (column_texts m 0x02 2) t.defs.namespaces (are.each k m t there here).defs.namespaces ∙ column_count m 2;
  names = λ k m t there here. numbers_count names (column_texts m 0x02 1) t.defs.names (are.each k m t there here).defs.names ∙ column_count m 1;
}

-- ---- definitions

pub record AreIndexedOf (files : List Metadata) (texts : List FileTexts) (n : ℕ) (found : List FirstPlaces) : Type 0 where
  pub count : length found ≡ n
  pub each : (k : ℕ) (m : Metadata) (t : FileTexts) (p : FirstPlaces) → slice_get files k ≡ Some m → slice_get texts k ≡ Some t → slice_get found k ≡ Some p
      → FindsKeys m t p

pub indexed_none : (files : List Metadata) (texts : List FileTexts) (defs : List FirstPlaces) → defs ≡ [] → AreIndexedOf files texts 0 defs
indexed_none files texts defs e = record {
  count = ap length e;
  each = λ k m t p there with_texts here. let none = sym (ap (λ (l : List FirstPlaces). slice_get l k) e) ∙ here in absurd cc;
}

same_texts : (texts : List FileTexts) (k n : ℕ) (t d : FileTexts) → slice_get texts k ≡ Some t → k ≡ n → d ≡ get_or texts n d → d ≡ t
same_texts texts k n t d there place read =
    read ∙ ap (λ (i : ℕ). get_or texts i d) (sym place) ∙ get_or_from_slice_get texts k t d there

pub indexed_more : (files : List Metadata) (texts : List FileTexts) (n : ℕ) (defs longer : List FirstPlaces) (m : Metadata) (t : FileTexts) (p : FirstPlaces)
    → AreIndexedOf files texts n defs → m ≡ get_or files n m → t ≡ get_or texts n t → FindsKeys m t p → longer ≡ defs ++ p ∷ []
    → AreIndexedOf files texts (n + 1) longer
indexed_more files texts n defs longer m t p before read read_texts last e = record {
  count = pushed_count defs longer p n before.count e;
  each = λ k m' t' p' there with_texts here.
      elim (pushed_at defs p p' k (sym (ap (λ (l : List FirstPlaces). slice_get l k) e) ∙ here)) [
        | inl held ↦ before.each k m' t' p' there with_texts held
        | inr added ↦
            let place = added.0 ∙ before.count in
            subst (FindsKeys m' t') added.1
            (subst (λ (x : FileTexts). FindsKeys m' x p) (same_texts texts k n t' t with_texts place read_texts)
            (subst (λ (x : Metadata). FindsKeys x t p) (same_file files k n m' m there place read) last))
      ];
}

pub indexed_all : (files : List Metadata) (texts : List FileTexts) (n : ℕ) (defs : List FirstPlaces) → n ≡ length files → AreIndexedOf files texts n defs
    → AreIndexed files texts defs
indexed_all files texts n defs all before = record { count = before.count ∙ all; each = before.each }

finds_defs : (names : List (List ℕ)) (m : Metadata) (t : FileTexts) (p : FirstPlaces) → AreFileTexts names m t → FindsKeys m t p → FindsDefs names m p
finds_defs names m t p are found =
    finds_types names (rows m 0x02) (λ i. enclosing_row m (i + 1)) (column_texts m 0x02 2) (column_texts m 0x02 1) t.defs are.defs (column_count m 2) (column_count m 1) p
    (λ i. def_namespace m (i + 1)) (λ i. def_name m (i + 1)) found
    (λ i within. get_or-map-range_with_len (λ r. text m 0x02 r 2) 1 (rows m 0x02) i (i + 1) [] within (omega arith))
    (λ i within. get_or-map-range_with_len (λ r. text m 0x02 r 1) 1 (rows m 0x02) i (i + 1) [] within (omega arith))

pub defs_found : (names : List (List ℕ)) (files : List Metadata) (texts : List FileTexts) (defs : List FirstPlaces) → AreTexts names files texts
    → AreIndexed files texts defs → AreDefs names files defs
defs_found names files texts defs are found = record {
  count = found.count;
  each = λ k m p there here.
      elim (slice_get_cases texts k).1 [
        | inl with_texts ↦
            finds_defs names m with_texts.0 p (are.each k m with_texts.0 there with_texts.2) (found.each k m with_texts.0 p there with_texts.2 here)
        | inr past ↦ let inside = slice_get_within files k m there in absurd (omega (arith, past.0, inside, are.count))
      ];
}

-- ---- the core

pub core_counts : (names : List (List ℕ)) (c : CoreTexts) → AreCoreTexts names c → (length c.types.namespaces ≡ 36) × (length c.types.names ≡ 36)
core_counts names c are = (
  numbers_count names (in_order core_namespace 36) c.types.namespaces are.types.namespaces ∙ length-map-range_with_len core_namespace 0 36,
  numbers_count names (in_order core_type_name 36) c.types.names are.types.names ∙ length-map-range_with_len core_type_name 0 36,
)

pub core_finds : (names : List (List ℕ)) (c : CoreTexts) (p : FirstPlaces) → AreCoreTexts names c → Finds (keys_of (λ i. 0) c.types 36) p
    → FindsTypes names 36 (λ i. 0) core_namespace core_type_name p
core_finds names c p are found =
    finds_types names 36 (λ i. 0) (in_order core_namespace 36) (in_order core_type_name 36) c.types are.types (length-map-range_with_len core_namespace 0 36)
    (length-map-range_with_len core_type_name 0 36) p core_namespace core_type_name found
    (λ i within. get_or-map-range_with_len core_namespace 0 36 i i [] within (omega arith))
    (λ i within. get_or-map-range_with_len core_type_name 0 36 i i [] within (omega arith))

-- ---- what references name

module _ (files : List Metadata) where
  taken : (k : ℕ) (m : Metadata) → slice_get files k ≡ Some m → take (k + 1) (enumerate_from 0 files) ≡ take k (enumerate_from 0 files) ++ (k, m) ∷ []
  taken k m there =
      let inside = slice_get_within files k m there in
      let within : k < length (enumerate_from 0 files) = omega (arith, inside, length-enumerate_from 0 files) in
      let place : 0 + k ≡ k = omega arith in
      let read : get_or files k m ≡ m = get_or_from_slice_get files k m m there in
      take_more (enumerate_from 0 files) k (0, m) within
      ∙ ap (λ (f : ℕ × Metadata). take k (enumerate_from 0 files) ++ f ∷ [])
      (get_or-enumerate_from 0 files k (0, m) inside ∙ ap (λ (x : Metadata). (0 + k, x)) read ∙ ap (λ (i : ℕ). (i, m)) place)

  pub places_more : (k : ℕ) (m : Metadata) (found longer : List (List (Option DefPlace))) (one : List (Option DefPlace)) → slice_get files k ≡ Some m
      → found ≡ map (places_in files) (take k (enumerate_from 0 files)) → one ≡ places_in files (k, m) → longer ≡ found ++ one ∷ []
      → longer ≡ map (places_in files) (take (k + 1) (enumerate_from 0 files))
  places_more k m found longer one there before is e =
      e ∙ ap₂ (λ (xs : List (List (Option DefPlace))) (x : List (Option DefPlace)). xs ++ x ∷ []) before is
      ∙ sym (ap (map (places_in files)) (taken k m there) ∙ map-append (places_in files) (take k (enumerate_from 0 files)) ((k, m) ∷ []))

  pub places_all : (n : ℕ) (found : List (List (Option DefPlace))) → n ≡ length files → found ≡ map (places_in files) (take n (enumerate_from 0 files))
      → found ≡ all_places files
  unfolding all_places
  places_all n found all before =
      let enough : length (enumerate_from 0 files) ≤ n = omega (arith, all, length-enumerate_from 0 files) in
      before ∙ ap (map (places_in files)) (take_all n (enumerate_from 0 files) enough)
