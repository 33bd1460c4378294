-- What a reference names, by its scope.
use Rattle.std.proofs.Common.{◌≡◌, ℕ, zero, suc, ◌+◌, ◌-◌, ◌<◌, ◌≤◌, Bool, true, false, cond, eqb, List, [], length, Option, None, Some, refl, sym, ap, ap₂, ◌∙◌, arith}
use Rattle.std.specs.Prelude.{◌/◌, ◌%◌, ◌^◌, get_or}
use Rattle.std.specs.Option.{option_and_then}
use Rattle.std.proofs.lemmas.Bool.{eqb-false, le-leb, lt-leb}
use Rattle.std.proofs.lemmas.List.FromFn.{get_or-map-range_with_len, length-map-range_with_len}
use Rattle.cli_tables.specs.declared.schema.CodedIndex.TheVariants.{ResolutionScope}
use Rattle.cli_tables.specs.Metadata.{Metadata}
use Rattle.cli_tables.specs.Schema.{tables_of, tag_bits}
use Rattle.image_rows.specs.declared.cells.RowOf.{RowOf}
use Rattle.type_names.specs.declared.resolution.DefPlace.{DefPlace}
use Rattle.type_names.specs.declared.type_keys.TypeKey.{TypeKey}
use Rattle.type_names.specs.declared.type_texts.FileTexts.{FileTexts}
use Rattle.image_rows.specs.Cells.{at, coded, of_table, rows, text}
use Rattle.core_types.specs.Names.{number_in}
use Rattle.type_names.specs.Numbering.{column_texts}
use Rattle.type_names.specs.Resolution.{assembly_text, in_assembly, in_scope, nested_in, resolved_within, top_in, def_in}
use Rattle.type_names.specs.TypeFinders.{key_in}
use Rattle.type_names.specs.TypeKeys.{key_of}
use Rattle.image_rows.specs.TypeNames.{ref_name, ref_namespace, scope}
use Rattle.type_names.specs.TypeTexts.{AreFileTexts}
use Rattle.type_names.proofs.FindTypes.{number_there}

-- ---- a scope is a row

table_row : (b : Bool) (table r : ℕ) (s : RowOf) → eqb r 0 ≡ b → cond b None (Some (record { table = table; row = r })) ≡ Some s → 1 ≤ s.row
table_row true table r s e is = absurd cc
table_row false table r s e is =
    let found : RowOf = record { table = table; row = r } in
    let same : found ≡ s = cc in
    let apart = eqb-false r 0 e in
    let row : r ≡ s.row = ap (λ (x : RowOf). x.row) same in
    omega (arith, row, apart)

coded_row : (o : Option ℕ) (r : ℕ) (s : RowOf) → of_table o r ≡ Some s → 1 ≤ s.row
coded_row None r s is = absurd cc
coded_row (Some table) r s is = table_row (eqb r 0) table r s refl is

pub scope_row : (m : Metadata) (row : ℕ) (s : RowOf) → scope m row ≡ Some s → 1 ≤ s.row
unfolding coded
scope_row m row s is =
    let value = at m 0x01 row 0 in
    coded_row (get_or (tables_of ResolutionScope) (value % 2 ^ tag_bits ResolutionScope) None) (value / 2 ^ tag_bits ResolutionScope) s is

-- ---- what a reference is called

pub ref_key : (names : List (List ℕ)) (m : Metadata) (found : FileTexts) (row : ℕ) (key : TypeKey) → AreFileTexts names m found → 1 ≤ row → row ≤ rows m 0x01
    → key ≡ key_of (λ i. 0) found.refs (row - 1) → key ≡ key_in names 0 (ref_namespace m row) (ref_name m row)
ref_key names m found row key are first last is =
    let long : (column : ℕ) → length (column_texts m 0x01 column) ≡ rows m 0x01 = λ column. length-map-range_with_len (λ r. text m 0x01 r column) 1 (rows m 0x01) in
    let within : row - 1 < rows m 0x01 = omega (arith, first, last) in
    let next : 1 + (row - 1) ≡ row = omega (arith, first) in
    let outer = number_there names (column_texts m 0x01 2) found.refs.namespaces (row - 1) are.refs.namespaces (omega (arith, within, long 2))
    ∙ ap (number_in names) (get_or-map-range_with_len (λ r. text m 0x01 r 2) 1 (rows m 0x01) (row - 1) row [] within next) in
    let own = number_there names (column_texts m 0x01 1) found.refs.names (row - 1) are.refs.names (omega (arith, within, long 1))
    ∙ ap (number_in names) (get_or-map-range_with_len (λ r. text m 0x01 r 1) 1 (rows m 0x01) (row - 1) row [] within next) in
    is ∙ ap₂ (λ (x y : ℕ). let key : TypeKey = record { around = 0; namespace = x; name = y } in key) outer own

-- and so in no other definition
pub top_given : (names : List (List ℕ)) (files : List Metadata) (file : ℕ) (key : TypeKey) (s t : List ℕ) (r : Option DefPlace) → key ≡ key_in names 0 s t
    → (key ≡ key_in names key.around s t → r ≡ def_in files file key.around s t) → r ≡ top_in files file s t
top_given names files file key s t r called given =
    let loose : key.around ≡ 0 = ap (λ (k : TypeKey). k.around) called in
    given (called ∙ ap (λ (x : ℕ). key_in names x s t) (sym loose)) ∙ ap (λ (x : ℕ). def_in files file x s t) loose

-- ---- by scopes

module _ (files : List Metadata) (k : ℕ) (m : Metadata) (place_of : ℕ → Option DefPlace) (s t : List ℕ) (at : RowOf) (r : Option DefPlace) where
  unfoldable chain : Bool → Bool → Bool → Option DefPlace
  chain b c d =
      cond b (top_in files k s t)
      (cond c (in_assembly files (assembly_text m at.row) s t) (cond d (option_and_then (λ p. nested_in files p s t) (place_of at.row)) None))

  module _ (o : Option RowOf) (is : o ≡ Some at) where
    whole : (b c d : Bool) → eqb at.table 0x00 ≡ b → eqb at.table 0x23 ≡ c → eqb at.table 0x01 ≡ d → in_scope files k m place_of s t o ≡ chain b c d
    unfolding chain
    whole b c d e f g = ap (in_scope files k m place_of s t) is ∙ ap₂ (λ (x y : Bool). chain x y (eqb at.table 0x01)) e f ∙ ap (chain b c) g

    pub by_module : eqb at.table 0x00 ≡ true → r ≡ top_in files k s t → r ≡ in_scope files k m place_of s t o
    unfolding chain
    by_module e given = given ∙ sym (whole true (eqb at.table 0x23) (eqb at.table 0x01) e refl refl)

    pub by_assembly : eqb at.table 0x00 ≡ false → eqb at.table 0x23 ≡ true → r ≡ in_assembly files (assembly_text m at.row) s t
        → r ≡ in_scope files k m place_of s t o
    unfolding chain
    by_assembly e f given = given ∙ sym (whole false true (eqb at.table 0x01) e f refl)

    pub by_reference : eqb at.table 0x00 ≡ false → eqb at.table 0x23 ≡ false → eqb at.table 0x01 ≡ true
        → r ≡ option_and_then (λ p. nested_in files p s t) (place_of at.row) → r ≡ in_scope files k m place_of s t o
    unfolding chain
    by_reference e f g given = given ∙ sym (whole false false true e f g)

    pub by_other : eqb at.table 0x00 ≡ false → eqb at.table 0x23 ≡ false → eqb at.table 0x01 ≡ false → r ≡ None → r ≡ in_scope files k m place_of s t o
    unfolding chain
    by_other e f g given = given ∙ sym (whole false false false e f g)

-- ---- through one scope more

module _ (files : List Metadata) (k : ℕ) (m : Metadata) (row : ℕ) where
  pub through_none : (most : ℕ) → most ≡ 0 → None ≡ resolved_within most files k m row
  unfolding resolved_within
  through_none most e = sym (ap (λ (n : ℕ). resolved_within n files k m row) e)

  pub past_rows : (most : ℕ) → rows m 0x01 < row → None ≡ resolved_within most files k m row
  unfolding resolved_within
  past_rows zero past = refl
  past_rows (suc n) past =
      sym (ap (λ (b : Bool). cond b (in_scope files k m (resolved_within n files k m) (ref_namespace m row) (ref_name m row) (scope m row)) None) (lt-leb row (rows m 0x01) past))

  pub through_one : (most : ℕ) (r : Option DefPlace) → 1 ≤ most → row ≤ rows m 0x01
      → r ≡ in_scope files k m (resolved_within (most - 1) files k m) (ref_namespace m row) (ref_name m row) (scope m row) → r ≡ resolved_within most files k m row
  unfolding resolved_within
  through_one most r some there given =
      let next : suc (most - 1) ≡ most = omega arith in
      given
      ∙ sym (ap (λ (b : Bool). cond b (in_scope files k m (resolved_within (most - 1) files k m) (ref_namespace m row) (ref_name m row) (scope m row)) None) (le-leb row (rows m 0x01) there))
      ∙ ap (λ (n : ℕ). resolved_within n files k m row) next
