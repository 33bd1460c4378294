-- The definitions of a file in the world of files: those of its TypeDef rows, in order, each called by its full name.
use Rattle.std.proofs.Common.{◌≡◌, ◌≢◌, ◌==◌, ℕ, zero, suc, ◌+◌, ◌-◌, ◌<◌, ◌≤◌, ◌||◌, Bool, true, false, cond, List, [], ◌∷◌, ◌++◌, map, filter, length, Option, Some, refl, sym, ap, ap₂, ◌∙◌, subst, arith, slice_get, get_or, unwrap_or}
use Rattle.std.specs.Prelude.{not}
use Rattle.std.specs.List.{flat_map, enumerate_from, range_with_len, list_all, list_any, position_or_len}
use Rattle.std.specs.Str.{bytes_eq}
use Rattle.std.proofs.lemmas.Bool.{and_parts, eq-eqb, ne_eqb}
use Rattle.std.proofs.lemmas.List.{append-nil}
use Rattle.std.proofs.lemmas.List.Elements.{filter-append}
use Rattle.std.proofs.lemmas.List.FromFn.{length-map-range_with_len, get_or-map-range_with_len}
use Rattle.cli_tables.specs.Metadata.{Metadata}
use Rattle.type_tree.specs.declared.definition.Def.{Def}
use Rattle.type_tree.specs.Lookup.{name_text}
use Rattle.type_tree.specs.World.{Facts}
use Rattle.world_build.specs.declared.roots.NamedRoot.{NamedRoot}
use Rattle.image_rows.specs.Cells.{rows, rows_of}
use Rattle.core_types.specs.CoreLibrary as core
use Rattle.world_build.specs.DefNames.{names_in}
use Rattle.type_members.specs.Definitions.{def_of}
use Rattle.type_members.specs.MemberTable.{of_each, run_of}
use Rattle.core_types.specs.Names.{id_in, number_in}
use Rattle.world_build.specs.References.{impls_of}
use Rattle.world_build.specs.Roots.{world_with}
use Rattle.type_members.specs.Trees.{empty_name}
use Rattle.image_rows.specs.TypeNames.{full_name}
use Rattle.world_build.specs.World.{reader, file_defs, world}
use Rattle.image_files.specs.Images.{tables_in}
use Rattle.type_names.specs.WorldNames.{names, file_names, file_names_in}
use Rattle.type_members.proofs.NamesThere.{is_among, same_text, defs_there}

-- ---- which definitions are a file's

none_pass : {X Y : Type 0} (p : Y → Bool) (give : X → Y) (xs : List X) → ((x : X) → p (give x) ≡ false) → filter p (map give xs) ≡ []
none_pass p give [] each = refl
none_pass p give (x ∷ xs) each = rw (each x) (none_pass p give xs each)

all_pass : {X Y : Type 0} (p : Y → Bool) (give : X → Y) (xs : List X) → ((x : X) → p (give x) ≡ true) → filter p (map give xs) ≡ map give xs
all_pass p give [] each = refl
all_pass {Y} p give (x ∷ xs) each = rw (each x) (ap (λ (ys : List Y). give x ∷ ys) (all_pass p give xs each))

abbrev is_of : ℕ → Def → Bool
is_of number d = d.file == number

no_core : (k : ℕ) → filter (is_of (k + 1)) core.defs ≡ []
unfolding core.defs core.def_of
no_core k =
    let other : 0 ≢ k + 1 = omega arith in
    none_pass (is_of (k + 1)) core.def_of (range_with_len 0 36) (λ x. ne_eqb 0 (k + 1) other)

module _ (ts : List Metadata) where
  own : (k : ℕ) (m : Metadata) → filter (is_of (k + 1)) (file_defs ts k m) ≡ file_defs ts k m
  unfolding file_defs def_of
  own k m = all_pass (is_of (k + 1)) _ (rows_of m 0x02) (λ row. eq-eqb (k + 1) (k + 1) refl)

  others : (k n : ℕ) (m : Metadata) → n + 1 ≢ k + 1 → filter (is_of (k + 1)) (file_defs ts n m) ≡ []
  unfolding file_defs def_of
  others k n m other = none_pass (is_of (k + 1)) _ (rows_of m 0x02) (λ row. ne_eqb (n + 1) (k + 1) other)

  abbrev from : ℕ → List Metadata → List Def
  from n ms = flat_map (λ ((k, m) : ℕ × Metadata). file_defs ts k m) (enumerate_from n ms)

  behind : (k n : ℕ) (ms : List Metadata) → k < n → filter (is_of (k + 1)) (from n ms) ≡ []
  behind k n [] less = refl
  behind k n (m ∷ ms) less =
      let other : n + 1 ≢ k + 1 = omega arith in
      filter-append (is_of (k + 1)) (file_defs ts n m) (from (n + 1) ms)
      ∙ ap₂ (λ (xs ys : List Def). xs ++ ys) (others k n m other) (behind k (n + 1) ms (omega arith))

  part : (n k : ℕ) (ms : List Metadata) (m : Metadata) → slice_get ms k ≡ Some m → filter (is_of (n + k + 1)) (from n ms) ≡ file_defs ts (n + k) m
  part n k [] m e = absurd cc
  part n zero (o ∷ ms) m e =
      let same : o ≡ m = cc in
      let here : n ≡ n + 0 = omega arith in
      subst (λ (i : ℕ). filter (is_of (i + 1)) (from n (o ∷ ms)) ≡ file_defs ts i m) here
      (filter-append (is_of (n + 1)) (file_defs ts n o) (from (n + 1) ms)
      ∙ ap₂ (λ (xs ys : List Def). xs ++ ys) (own n o) (behind n (n + 1) ms (omega arith))
      ∙ append-nil (file_defs ts n o) ∙ ap (file_defs ts n) same)
  part n (suc k) (o ∷ ms) m e =
      let further : n + 1 + k ≡ n + suc k = omega arith in
      let other : n + 1 ≢ n + 1 + k + 1 = omega arith in
      subst (λ (i : ℕ). filter (is_of (i + 1)) (from n (o ∷ ms)) ≡ file_defs ts i m) further
      (filter-append (is_of (n + 1 + k + 1)) (file_defs ts n o) (from (n + 1) ms)
      ∙ ap₂ (λ (xs ys : List Def). xs ++ ys) (others (n + 1 + k) n o other) (part (n + 1) k ms m e))

  defs_of_file : (k : ℕ) (m : Metadata) → slice_get ts k ≡ Some m
      → filter (is_of (k + 1)) (core.defs ++ of_each (file_defs ts) ts) ≡ file_defs ts k m
  defs_of_file k m e =
      let here : 0 + k ≡ k = omega arith in
      filter-append (is_of (k + 1)) core.defs (of_each (file_defs ts) ts)
      ∙ ap (λ (xs : List Def). xs ++ filter (is_of (k + 1)) (of_each (file_defs ts) ts)) (no_core k)
      ∙ subst (λ (i : ℕ). filter (is_of (i + 1)) (of_each (file_defs ts) ts) ≡ file_defs ts i m) here (part 0 k ts m e)

-- ---- what they are called

-- a text that is among names stands at its number
text_at_number : (seen : List (List ℕ)) (t : List ℕ) → is_among seen t ≡ true → slice_get seen (number_in seen t) ≡ Some t
text_at_number [] t e = absurd cc
text_at_number (x ∷ xs) t e = by (bytes_eq t x) refl e (text_at_number xs t)
  where
    by : (b : Bool) → bytes_eq t x ≡ b → (b || list_any (bytes_eq t) xs) ≡ true
        → (list_any (bytes_eq t) xs ≡ true → slice_get xs (position_or_len (bytes_eq t) xs) ≡ Some t)
        → slice_get (x ∷ xs) (cond (not b) (1 + position_or_len (bytes_eq t) xs) 0) ≡ Some t
    by true is e further = ap (λ (u : List ℕ). Some u) (sym (same_text t x is))
    by false is e further =
        let next : 1 + position_or_len (bytes_eq t) xs ≡ suc (position_or_len (bytes_eq t) xs) = omega arith in
        ap (slice_get (x ∷ xs)) next ∙ further e

each_at : {X : Type 0} (p : X → Bool) (xs : List X) (i : ℕ) (d : X) → list_all p xs ≡ true → i < length xs → p (get_or xs i d) ≡ true
each_at p [] i d all within = absurd (omega arith)
each_at p (x ∷ xs) zero d all within = (and_parts (p x) (list_all p xs) all).0
each_at p (x ∷ xs) (suc i) d all within = each_at p xs i d (and_parts (p x) (list_all p xs) all).1 (omega arith)

-- what is made of the items of a range
same_over : {X Y : Type 0} (called : Y → X) (give : ℕ → Y) (wanted : ℕ → X) (a n : ℕ) → ((x : ℕ) → a ≤ x → x < a + n → called (give x) ≡ wanted x)
    → map called (map give (range_with_len a n)) ≡ map wanted (range_with_len a n)
same_over called give wanted a zero each = refl
same_over {X} called give wanted a (suc n) each =
    ap₂ (λ (x : X) (xs : List X). x ∷ xs) (each a (omega arith) (omega arith))
    (same_over called give wanted (a + 1) n (λ x first last. each x (omega arith) (omega arith)))

as_before : (w : Facts) (rs : List NamedRoot) (number : ℕ) → names_in (world_with w rs) number ≡ names_in w number
unfolding names_in world_with name_text
as_before w rs number = refl

module _ (files : List (List ℕ)) (k : ℕ) (m : Metadata) (there : slice_get (tables_in files) k ≡ Some m) where
  abbrev ts : List Metadata
  ts = tables_in files

  -- the definition of a row has the number of its full name
  row_name : (row : ℕ) → 1 ≤ row → row < 1 + rows m 0x02 → get_or (file_names ts k m).defs (row - 1) empty_name ≡ id_in (names ts) (full_name m row)
  unfolding file_names_in
  row_name row first last =
      get_or-map-range_with_len (λ r. id_in (names ts) (full_name m r)) 1 (rows m 0x02) (row - 1) row empty_name (omega arith) (omega arith)

  named : (row : ℕ) → 1 ≤ row → row < 1 + rows m 0x02 → is_among (names ts) (full_name m row) ≡ true
  named row first last =
      let count = length-map-range_with_len (full_name m) 1 (rows m 0x02) in
      subst (λ (t : List ℕ). is_among (names ts) t ≡ true)
      (get_or-map-range_with_len (full_name m) 1 (rows m 0x02) (row - 1) row [] (omega arith) (omega arith))
      (each_at (is_among (names ts)) (map (full_name m) (rows_of m 0x02)) (row - 1) [] (defs_there ts k m there) (omega arith))

  row_text : (row : ℕ) → 1 ≤ row → row < 1 + rows m 0x02
      → name_text (world files) (get_or (file_names ts k m).defs (row - 1) empty_name) ≡ full_name m row
  unfolding world name_text
  row_text row first last =
      ap (name_text (world files)) (row_name row first last)
      ∙ ap (λ (o : Option (List ℕ)). unwrap_or o []) (text_at_number (names ts) (full_name m row) (named row first last))

  defs_called : map (λ d. name_text (world files) d.name) (file_defs ts k m) ≡ map (full_name m) (rows_of m 0x02)
  unfolding file_defs def_of
  defs_called =
      same_over (λ (d : Def). name_text (world files) d.name)
      (λ row. def_of (file_names ts k m) m (k + 1) (run_of ts k m row) (impls_of (reader ts k m) row) row) (full_name m) 1 (rows m 0x02) row_text

  -- what the definitions of a file are called, in order
  called_in_files : names_in (world files) (k + 1) ≡ map (full_name m) (rows_of m 0x02)
  unfolding names_in world
  called_in_files = ap (map (λ (d : Def). name_text (world files) d.name)) (defs_of_file ts k m there) ∙ defs_called

  -- roots change nothing of it
  pub names_of_file : (w : Facts) (rs : List NamedRoot) → w ≡ world_with (world files) rs → names_in w (k + 1) ≡ map (full_name m) (rows_of m 0x02)
  names_of_file w rs is = ap (λ (v : Facts). names_in v (k + 1)) is ∙ as_before (world files) rs (k + 1) ∙ called_in_files
