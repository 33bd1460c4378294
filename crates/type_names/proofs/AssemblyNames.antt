-- Assemblies that are found by the numbers of their names are those that are found by the names.
use Rattle.std.proofs.Common.{◌≡◌, ℕ, zero, suc, ◌+◌, ◌-◌, ◌<◌, ◌≤◌, inl, inr, Bool, true, false, ◌||◌, ◌&&◌, cond, eqb, List, [], ◌∷◌, map, length, get_or, Option, None, Some, refl, sym, ap, ap₂, ◌∙◌, arith}
use Rattle.std.specs.Prelude.{not, nat_lt, slice_get}
use Rattle.std.specs.List.{list_all, list_any, position, position_or_len, range_with_len}
use Rattle.std.specs.Option.{option_and_then, option_map, option_map_or}
use Rattle.std.specs.Str.{bytes_eq}
use Rattle.std.proofs.lemmas.Bool.{and_parts, eqb-true, eq-eqb, le-leb, lt-ltb, cases_eq, lt-leb, le-ltb}
use Rattle.std.proofs.lemmas.Bool.Decides.{same_from_decides}
use Rattle.std.proofs.lemmas.List.{get_or-map, length-map}
use Rattle.std.proofs.lemmas.List.FromFn.{length-map-range_with_len, get_or-map-range_with_len}
use Rattle.std.proofs.lemmas.Option.{get_or_from_slice_get, slice_get-get_or, slice_get_cases, slice_get_within}
use Rattle.std.proofs.lemmas.Slice.Eq.{bytes_eq-Decides}
use Rattle.clr_base.specs.declared.ids.NameId.{NameId}
use Rattle.cli_tables.specs.Metadata.{Metadata}
use Rattle.type_names.specs.declared.resolution.DefPlace.{DefPlace}
use Rattle.type_names.specs.declared.resolution.DefPlace.TheVariants.{InCore}
use Rattle.type_names.specs.declared.type_texts.FileTexts.{FileTexts}
use Rattle.type_names.specs.Assemblies.{has_number, is_among}
use Rattle.image_rows.specs.Cells.{rows, text}
use Rattle.core_types.specs.Names.{number_in, id_in}
use Rattle.type_names.specs.Numbering.{column_texts}
use Rattle.type_names.specs.Resolution.{assembly_text, core_assemblies, core_type, file_named, has_name, in_assembly, top_in, def_in}
use Rattle.type_names.specs.TypeFinders.{AreTexts}
use Rattle.type_names.specs.TypeTexts.{AreFileTexts, AreNumbers, core_assembly, in_order}
use Rattle.type_names.proofs.FindTypes.{among_there, same_number}
use Rattle.type_names.proofs.Settled.{settled_now}

-- ---- the core's

turned : (s t : List ℕ) → bytes_eq s t ≡ bytes_eq t s
turned s t =
    same_from_decides (bytes_eq s t) (bytes_eq t s) (bytes_eq-Decides s t)
    ((λ h. sym ((bytes_eq-Decides t s).0 h)), (λ e. (bytes_eq-Decides t s).1 (sym e)))

eqb_back : (x y : ℕ) → eqb x y ≡ eqb y x
eqb_back x y =
    same_from_decides (eqb x y) (eqb y x) ((λ h. eqb-true x y h), (λ e. eq-eqb x y e)) ((λ h. sym (eqb-true y x h)), (λ e. eq-eqb y x (sym e)))

any_number : (names texts : List (List ℕ)) (a : List ℕ) → list_all (λ t. list_any (bytes_eq t) names) texts ≡ true
    → is_among (map (id_in names) texts) (id_in names a) ≡ list_any (bytes_eq a) texts
any_number names [] a all = refl
any_number names (t ∷ texts) a all =
    let parts = and_parts (list_any (bytes_eq t) names) (list_all (λ t. list_any (bytes_eq t) names) texts) all in
    ap₂ ◌||◌ (eqb_back (number_in names t) (number_in names a) ∙ sym (same_number names t a parts.0) ∙ turned t a) (any_number names texts a parts.1)

pub core_among : (names : List (List ℕ)) (ids : List NameId) (id : NameId) (a : List ℕ) → AreNumbers names (in_order core_assembly 5) ids → id ≡ id_in names a
    → is_among ids id ≡ list_any (bytes_eq a) core_assemblies
core_among names ids id a are is =
    ap₂ is_among (settled_now (λ ns. map (id_in ns) (in_order core_assembly 5)) names ids are.settled) is
    ∙ any_number names (in_order core_assembly 5) a are.among

-- ---- a file's own

named_there : (names : List (List ℕ)) (m : Metadata) (n : ℕ) (ids : List NameId) (id : NameId) (a : List ℕ) → n ≡ rows m 0x20
    → AreNumbers names (map (λ row. text m 0x20 row 7) (range_with_len 1 n)) ids → id ≡ id_in names a
    → option_map_or (λ (own : NameId). eqb id.0 own.0) (slice_get ids 0) false ≡ (nat_lt 0 n && bytes_eq (text m 0x20 1 7) a)
named_there names m zero ids id a all are is =
    ap (λ (l : List NameId). option_map_or (λ (own : NameId). eqb id.0 own.0) (slice_get l 0) false)
    (settled_now (λ ns. map (id_in ns) (map (λ row. text m 0x20 row 7) (range_with_len 1 zero))) names ids are.settled)
named_there names m (suc n) ids id a all are is =
    ap (λ (l : List NameId). option_map_or (λ (own : NameId). eqb id.0 own.0) (slice_get l 0) false)
    (settled_now (λ ns. map (id_in ns) (map (λ row. text m 0x20 row 7) (range_with_len 1 (suc n)))) names ids are.settled)
    ∙ ap (λ (x : NameId). eqb x.0 (number_in names (text m 0x20 1 7))) is
    ∙ sym (same_number names (text m 0x20 1 7) a (among_there names (map (λ row. text m 0x20 row 7) (range_with_len 1 (suc n))) ids 0 are (omega arith)))
    ∙ sym (ap (λ (b : Bool). b && bytes_eq (text m 0x20 1 7) a) (lt-ltb 0 (suc n) (omega arith)))

pub own_name : (names : List (List ℕ)) (m : Metadata) (found : FileTexts) (id : NameId) (a : List ℕ) → AreFileTexts names m found → id ≡ id_in names a
    → has_number found id ≡ has_name a m
own_name names m found id a are is = named_there names m (rows m 0x20) found.assemblies id a refl are.assemblies is

-- ---- the first file

not_below : (n : ℕ) → nat_lt n n ≡ false
not_below n = le-ltb n n (omega arith)

module _ {X : Type 0} (p : X → Bool) where
  len_front : (b : Bool) (n i : ℕ) → b ≡ false → n ≡ i → cond (not b) (1 + n) 0 ≡ suc i
  len_front true n i e f = absurd cc
  len_front false n i e f = omega (arith, f)

  len_here : (b : Bool) (n : ℕ) → b ≡ true → cond (not b) (1 + n) 0 ≡ 0
  len_here true n e = refl
  len_here false n e = absurd cc

  first_len : (xs : List X) (i : ℕ) (d : X) → i < length xs → ((k : ℕ) → k < i → p (get_or xs k d) ≡ false) → p (get_or xs i d) ≡ true → position_or_len p xs ≡ i
  first_len [] i d within before here = absurd (omega arith)
  first_len (x ∷ xs) zero d within before here = len_here (p x) (position_or_len p xs) here
  first_len (x ∷ xs) (suc i) d within before here =
      len_front (p x) (position_or_len p xs) i (before 0 (omega arith)) (first_len xs i d (omega arith) (λ k small. before (suc k) (omega arith)) here)

  none_len : (xs : List X) (d : X) → ((k : ℕ) → k < length xs → p (get_or xs k d) ≡ false) → position_or_len p xs ≡ length xs
  none_len [] d none = refl
  none_len (x ∷ xs) d none = len_front (p x) (position_or_len p xs) (length xs) (none 0 (omega arith)) (none_len xs d (λ k small. none (suc k) (omega arith)))

  pub first_position : (xs : List X) (i : ℕ) (d : X) → i < length xs → ((k : ℕ) → k < i → p (get_or xs k d) ≡ false) → p (get_or xs i d) ≡ true → Some i ≡ position p xs
  first_position xs i d within before here =
      let at = first_len xs i d within before here in
      sym (ap (λ (n : ℕ). cond (nat_lt n (length xs)) (Some n) None) at ∙ ap (λ (b : Bool). cond b (Some i) None) (lt-ltb i (length xs) within))

  pub no_position : (xs : List X) (d : X) → ((k : ℕ) → k < length xs → p (get_or xs k d) ≡ false) → None ≡ position p xs
  no_position xs d none =
      let at = none_len xs d none in
      sym (ap (λ (n : ℕ). cond (nat_lt n (length xs)) (Some n) None) at ∙ ap (λ (b : Bool). cond b (Some (length xs)) None) (not_below (length xs)))

-- the files before one have other names
abbrev pub AreOthers : List (List ℕ) → List Metadata → List FileTexts → NameId → ℕ → Type 0
AreOthers names files texts id n = (a : List ℕ) (d : Metadata) (k : ℕ) → id ≡ id_in names a → k < n → has_name a (get_or files k d) ≡ false

module _ (names : List (List ℕ)) (files : List Metadata) (texts : List FileTexts) (are : AreTexts names files texts) (id : NameId) where
  pub no_others : AreOthers names files texts id 0
  no_others a d k is within = absurd (omega arith)

  pub named_at : (n : ℕ) (found : FileTexts) (a : List ℕ) (d : Metadata) (e : FileTexts) → n < length texts → found ≡ get_or texts n e → id ≡ id_in names a
      → has_number found id ≡ has_name a (get_or files n d)
  named_at n found a d e within read is =
      let inside : n < length files = omega (arith, within, are.count) in
      let m = get_or files n d in
      own_name names m found id a
      (are.each n m found (slice_get-get_or files n d inside) (slice_get-get_or texts n e within ∙ ap Some (sym read))) is

  pub others_more : (n : ℕ) (found : FileTexts) (e : FileTexts) → n < length texts → found ≡ get_or texts n e → has_number found id ≡ false → AreOthers names files texts id n → AreOthers names files texts id (n + 1)
  others_more n found e within read fails before a d k is small =
      elim (cases_eq k n) [
        | inl same ↦ ap (λ (i : ℕ). has_name a (get_or files i d)) same ∙ sym (named_at n found a d e within read is) ∙ fails
        | inr apart ↦ before a d k is (omega (arith, apart, small))
      ]

  pub file_first : (n : ℕ) (found : FileTexts) (a : List ℕ) (e : FileTexts) → n < length texts → found ≡ get_or texts n e → has_number found id ≡ true → AreOthers names files texts id n
      → id ≡ id_in names a → Some n ≡ file_named files a
  unfolding file_named
  file_first n found a e within read holds before is =
      let inside : n < length files = omega (arith, within, are.count) in
      elim (slice_get_cases files n).1 [
        | inl there ↦ first_position (has_name a) files n there.0 inside (λ k small. before a there.0 k is small) (sym (named_at n found a there.0 e within read is) ∙ holds)
        | inr past ↦ absurd (omega (arith, past.0, inside))
      ]

  none_of : (l : List Metadata) (a : List ℕ) → ((d : Metadata) (k : ℕ) → k < length l → has_name a (get_or l k d) ≡ false) → None ≡ position (has_name a) l
  none_of [] a none = refl
  none_of (m ∷ l) a none = no_position (has_name a) (m ∷ l) m (none m)

  pub file_none : (n : ℕ) (a : List ℕ) → n ≡ length texts → AreOthers names files texts id n → id ≡ id_in names a → None ≡ file_named files a
  unfolding file_named
  file_none n a all before is = none_of files a (λ d k small. before a d k is (omega (arith, small, all, are.count)))

-- ---- the name in an AssemblyRef row

pub ref_named : (names : List (List ℕ)) (m : Metadata) (found : FileTexts) (row : ℕ) (id : NameId) → AreFileTexts names m found → 1 ≤ row
    → slice_get found.assembly_refs (row - 1) ≡ Some id → id ≡ id_in names (assembly_text m row)
ref_named names m found row id are first there =
    let settled = settled_now (λ ns. map (id_in ns) (column_texts m 0x23 6)) names found.assembly_refs are.assembly_refs.settled in
    let inside = slice_get_within found.assembly_refs (row - 1) id there in
    let count : length found.assembly_refs ≡ rows m 0x23 =
    ap length settled ∙ length-map (column_texts m 0x23 6) (id_in names) ∙ length-map-range_with_len (λ r. text m 0x23 r 6) 1 (rows m 0x23) in
    let within : row - 1 < rows m 0x23 = omega (arith, inside, count) in
    let here : row ≤ rows m 0x23 = omega (arith, within, first) in
    sym (get_or_from_slice_get found.assembly_refs (row - 1) id id there)
    ∙ ap (λ (l : List NameId). get_or l (row - 1) id) settled
    ∙ get_or-map (id_in names) (column_texts m 0x23 6) (row - 1) [] id (omega (arith, within, length-map-range_with_len (λ r. text m 0x23 r 6) 1 (rows m 0x23)))
    ∙ ap (id_in names) (get_or-map-range_with_len (λ r. text m 0x23 r 6) 1 (rows m 0x23) (row - 1) row [] within (omega (arith, first)))
    ∙ ap (λ (b : Bool). id_in names (cond b (text m 0x23 row 6) [])) (sym (le-leb row (rows m 0x23) here))

pub ref_unnamed : (names : List (List ℕ)) (m : Metadata) (found : FileTexts) (row : ℕ) (empty : NameId) → AreFileTexts names m found → 1 ≤ row
    → slice_get found.assembly_refs (row - 1) ≡ None → empty ≡ id_in names [] → empty ≡ id_in names (assembly_text m row)
ref_unnamed names m found row empty are first none is =
    let settled = settled_now (λ ns. map (id_in ns) (column_texts m 0x23 6)) names found.assembly_refs are.assembly_refs.settled in
    let count : length found.assembly_refs ≡ rows m 0x23 =
    ap length settled ∙ length-map (column_texts m 0x23 6) (id_in names) ∙ length-map-range_with_len (λ r. text m 0x23 r 6) 1 (rows m 0x23) in
    elim (slice_get_cases found.assembly_refs (row - 1)).1 [
      | inl there ↦ let e = sym none ∙ there.2 in absurd cc
      | inr past ↦
          let behind : rows m 0x23 < row = omega (arith, past.0, count, first) in
          is ∙ ap (λ (b : Bool). id_in names (cond b (text m 0x23 row 6) [])) (sym (lt-leb row (rows m 0x23) behind))
    ]

-- a file that is there has texts
pub texts_there : (names : List (List ℕ)) (files : List Metadata) (texts : List FileTexts) (file : ℕ) (m : Metadata) → AreTexts names files texts
    → slice_get files file ≡ Some m → slice_get texts file ≡ None → ⊥
texts_there names files texts file m are there none =
    let inside = slice_get_within files file m there in
    elim (slice_get_cases texts file).1 [
      | inl here ↦ let e = sym none ∙ here.2 in absurd cc
      | inr past ↦ omega (arith, past.0, inside, are.count)
    ]

-- ---- a type of an assembly

module _ (files : List Metadata) (a s t : List ℕ) where
  chosen : (b : Bool) → list_any (bytes_eq a) core_assemblies ≡ b
      → in_assembly files a s t ≡ cond b (option_map InCore (core_type s t)) (option_and_then (λ k. top_in files k s t) (file_named files a))
  chosen b e = ap (λ (c : Bool). cond c (option_map InCore (core_type s t)) (option_and_then (λ k. top_in files k s t) (file_named files a))) e

  pub from_core : (r : Option DefPlace) → list_any (bytes_eq a) core_assemblies ≡ true → r ≡ option_map InCore (core_type s t) → r ≡ in_assembly files a s t
  from_core r e is = is ∙ sym (chosen true e)

  pub from_file : (k around : ℕ) (r : Option DefPlace) → list_any (bytes_eq a) core_assemblies ≡ false → file_named files a ≡ Some k → around ≡ 0
      → r ≡ def_in files k around s t → r ≡ in_assembly files a s t
  from_file k around r e named loose is =
      is ∙ ap (λ (x : ℕ). def_in files k x s t) loose ∙ sym (ap (option_and_then (λ k. top_in files k s t)) named) ∙ sym (chosen false e)

  pub from_none : list_any (bytes_eq a) core_assemblies ≡ false → file_named files a ≡ None → None ≡ in_assembly files a s t
  from_none e named = sym (ap (option_and_then (λ k. top_in files k s t)) named) ∙ sym (chosen false e)
