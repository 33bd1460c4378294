-- Each text that names are made of has its number among them.
use Rattle.std.proofs.Common.{◌≡◌, ℕ, zero, suc, ◌+◌, ◌<◌, ◌≤◌, Bool, true, false, cond, List, [], ◌∷◌, ◌++◌, map, filter, length, Option, None, Some, is_none, if◌then◌else◌, refl, sym, ◌∙◌, subst, arith, slice_get}
use Rattle.std.specs.Prelude.{◌||◌, not}
use Rattle.std.specs.List.{list_all, list_any, position_or_len, flat_map, enumerate_from}
use Rattle.std.specs.Str.{bytes_eq}
use Rattle.std.proofs.lemmas.Bool.{and_parts, lt-ltb}
use Rattle.std.proofs.lemmas.List.Folds.{list_all-append, list_any-append}
use Rattle.std.proofs.lemmas.Slice.Eq.{bytes_eq-Decides}
use Rattle.cli_tables.specs.Metadata.{Metadata}
use Rattle.type_tree.specs.declared.counts.Counts.{Counts}
use Rattle.type_names.specs.declared.resolution.DefPlace.{DefPlace}
use Rattle.core_types.specs.CoreLibrary.{texts_in_order}
use Rattle.core_types.specs.CoreTable.{core_defs}
use Rattle.image_rows.specs.Cells.{rows_of, text}
use Rattle.core_types.specs.Names.{with_one, with_all, first_seen, id_in, number_in}
use Rattle.type_names.specs.Resolution.{def_at, resolved}
use Rattle.image_rows.specs.TypeNames.{full_name, name_of_ref}
use Rattle.type_names.specs.WorldNames.{missing_refs, file_texts, names, target_in, target_of_in, type_rows, type_rows_in, file_names, file_names_in}
use Rattle.type_members.proofs.FileSums.{all_rows, rows_within}
use Rattle.clr_base.proofs.ListFacts.{choose, both}
use Rattle.type_members.proofs.MembersFit.{NamesFit, name_fits}
use Rattle.type_members.proofs.PlacesFit.{resolved_there}
use Rattle.type_members.proofs.TreesFit.{RowsFit, target_fits}

-- ---- a list of texts, each once

abbrev pub is_among : List (List ℕ) → List ℕ → Bool
is_among seen t = list_any (bytes_eq t) seen

or_left : (a b : Bool) → a ≡ true → (a || b) ≡ true
or_left true b e = refl
or_left false b e = absurd cc

or_right : (a b : Bool) → b ≡ true → (a || b) ≡ true
or_right true b e = refl
or_right false b e = e

pub same_text : (t u : List ℕ) → bytes_eq t u ≡ true → t ≡ u
same_text t u e = (bytes_eq-Decides t u).0 e

itself : (t : List ℕ) → bytes_eq t t ≡ true
itself t = (bytes_eq-Decides t t).1 refl

-- what is there stays there
stays_with_one : (seen : List (List ℕ)) (x t : List ℕ) → is_among seen t ≡ true → is_among (with_one bytes_eq seen x) t ≡ true
stays_with_one seen x t e =
    choose (λ l. is_among l t ≡ true) (list_any (bytes_eq x) seen) seen (seen ++ x ∷ []) (λ _. e)
    (λ _. list_any-append (bytes_eq t) seen (x ∷ []) ∙ or_left _ _ e)

stays : (seen texts : List (List ℕ)) (t : List ℕ) → is_among seen t ≡ true → is_among (with_all bytes_eq seen texts) t ≡ true
stays seen [] t e = e
stays seen (x ∷ xs) t e = stays (with_one bytes_eq seen x) xs t (stays_with_one seen x t e)

-- what is added is there
added : (seen : List (List ℕ)) (x : List ℕ) → is_among (with_one bytes_eq seen x) x ≡ true
added seen x =
    choose (λ l. is_among l x ≡ true) (list_any (bytes_eq x) seen) seen (seen ++ x ∷ []) (λ e. e)
    (λ _. list_any-append (bytes_eq x) seen (x ∷ []) ∙ or_right _ _ (or_left _ _ (itself x)))

all_there : (seen texts : List (List ℕ)) → list_all (is_among (with_all bytes_eq seen texts)) texts ≡ true
all_there seen [] = refl
all_there seen (x ∷ xs) =
    both _ _ (stays (with_one bytes_eq seen x) xs x (added seen x)) (all_there (with_one bytes_eq seen x) xs)

-- the number of a text that is there is below the count
number_below : (seen : List (List ℕ)) (t : List ℕ) → is_among seen t ≡ true → number_in seen t < length seen
number_below [] t e = absurd cc
number_below (x ∷ xs) t e = by (bytes_eq t x) e (number_below xs t)
  where
    by : (b : Bool) → (b || list_any (bytes_eq t) xs) ≡ true → (list_any (bytes_eq t) xs ≡ true → number_in xs t < length xs)
        → cond (not b) (1 + position_or_len (bytes_eq t) xs) 0 < length (x ∷ xs)
    by true e behind = omega arith
    by false e behind = let h = behind e in omega arith

-- ---- the names of a world

abbrev pub all_texts : List Metadata → List (List ℕ)
all_texts files = texts_in_order ++ [] ∷ [] ++ flat_map (file_texts files) (enumerate_from 0 files)

names_are : (files : List Metadata) → names files ≡ first_seen (all_texts files)
unfolding names
names_are files = refl

module _ (files : List Metadata) where
  abbrev pub There : List (List ℕ) → Type 0
  There texts = list_all (is_among (names files)) texts ≡ true

  all_texts_there : There (all_texts files)
  unfolding names
  all_texts_there = all_there [] (all_texts files)

  split : (xs ys : List (List ℕ)) → There (xs ++ ys) → There xs × There ys
  split xs ys h = and_parts (list_all (is_among (names files)) xs) (list_all (is_among (names files)) ys) (sym (list_all-append (is_among (names files)) xs ys) ∙ h)

  files_there : There (flat_map (file_texts files) (enumerate_from 0 files))
  files_there = (split (texts_in_order ++ [] ∷ []) (flat_map (file_texts files) (enumerate_from 0 files)) all_texts_there).1

  part_there : (n : ℕ) (ms : List Metadata) (k : ℕ) (m : Metadata) → There (flat_map (file_texts files) (enumerate_from n ms)) → slice_get ms k ≡ Some m
      → There (file_texts files (n + k, m))
  part_there n [] k m h e = absurd cc
  part_there n (o ∷ ms) zero m h e =
      let same : o ≡ m = cc in
      let here : n ≡ n + 0 = omega arith in
      let first = (split (file_texts files (n, o)) (flat_map (file_texts files) (enumerate_from (n + 1) ms)) h).0 in
      subst (λ (i : ℕ). There (file_texts files (i, m))) here (subst (λ (x : Metadata). There (file_texts files (n, x))) same first)
  part_there n (o ∷ ms) (suc k) m h e =
      let behind : n + 1 + k ≡ n + suc k = omega arith in
      let rest = (split (file_texts files (n, o)) (flat_map (file_texts files) (enumerate_from (n + 1) ms)) h).1 in
      subst (λ (i : ℕ). There (file_texts files (i, m))) behind (part_there (n + 1) ms k m rest e)

  file_there : (k : ℕ) (m : Metadata) → slice_get files k ≡ Some m → There (file_texts files (k, m))
  file_there k m e =
      let here : 0 + k ≡ k = omega arith in
      subst (λ (i : ℕ). There (file_texts files (i, m))) here (part_there 0 files k m files_there e)

  -- the four kinds of texts of a file
  record FileThere (k : ℕ) (m : Metadata) : Type 0 where
    defs : There (map (full_name m) (rows_of m 0x02))
    refs : There (map (name_of_ref m) (missing_refs files k m))
    fields : There (map (λ row. text m 0x04 row 1) (rows_of m 0x04))
    methods : There (map (λ row. text m 0x06 row 3) (rows_of m 0x06))

  texts_there : (k : ℕ) (m : Metadata) → There (file_texts files (k, m)) → FileThere k m
  unfolding file_texts
  texts_there k m h =
      let three = split _ _ h in
      let two = split _ _ three.0 in
      let one = split _ _ two.0 in
      record { defs = one.0; refs = one.1; fields = two.1; methods = three.1 }

  -- the full names of the definitions of a file
  pub defs_there : (k : ℕ) (m : Metadata) → slice_get files k ≡ Some m → There (map (full_name m) (rows_of m 0x02))
  defs_there k m e = (texts_there k m (file_there k m e)).defs

  -- ---- their numbers

  module _ (c : Counts) (all : c.names ≡ length (names files)) where
    id_fits : (t : List ℕ) → is_among (names files) t ≡ true → name_fits c (id_in (names files) t) ≡ true
    id_fits t e = lt-ltb (number_in (names files) t) c.names (omega (arith, all, number_below (names files) t e))

    ids_fit : (give : ℕ → List ℕ) (rows : List ℕ) → There (map give rows) → list_all (name_fits c) (map (λ row. id_in (names files) (give row)) rows) ≡ true
    ids_fit give [] h = refl
    ids_fit give (row ∷ rest) h =
        let parts = and_parts (is_among (names files) (give row)) (list_all (is_among (names files)) (map give rest)) h in
        both _ _ (id_fits (give row) parts.0) (ids_fit give rest parts.1)

    module _ (k : ℕ) (m : Metadata) (defs : core_defs + all_rows files 0x02 ≤ c.defs) where
      target_here : (row : ℕ) (rest : List ℕ) (o : Option DefPlace) → resolved files k m row ≡ o
          → There (map (name_of_ref m) (if is_none o then row ∷ filter (λ r. is_none (resolved files k m r)) rest else filter (λ r. is_none (resolved files k m r)) rest))
          → (target_fits c (target_in (names files) files (name_of_ref m row) o) ≡ true) × There (map (name_of_ref m) (filter (λ r. is_none (resolved files k m r)) rest))
      target_here row rest None e h =
          let parts = and_parts (is_among (names files) (name_of_ref m row)) _ h in
          (id_fits (name_of_ref m row) parts.0, parts.1)
      target_here row rest (Some p) e h = (lt-ltb (def_at files p).0 c.defs (omega (arith, resolved_there files k m row p e, defs)), h)

      targets_fit : (rows : List ℕ) → There (map (name_of_ref m) (filter (λ r. is_none (resolved files k m r)) rows))
          → list_all (target_fits c) (map (target_of_in (names files) files k m) rows) ≡ true
      targets_fit [] h = refl
      targets_fit (row ∷ rest) h =
          let parts = target_here row rest (resolved files k m row) refl h in
          both _ _ parts.0 (targets_fit rest parts.1)

      pub type_rows_fit : slice_get files k ≡ Some m → 52 < c.names → RowsFit c (type_rows files k m)
      unfolding type_rows_in
      type_rows_fit e empty =
          let there = texts_there k m (file_there k m e) in
          record {
            empty = empty;
            core = omega (arith, defs);
            defs = omega (arith, defs, rows_within files k 0x02 m e);
            refs = targets_fit (rows_of m 0x01) there.refs;
          }

      pub file_names_fit : slice_get files k ≡ Some m → 52 < c.names → NamesFit c (file_names files k m)
      unfolding file_names_in
      file_names_fit e empty =
          let there = texts_there k m (file_there k m e) in
          record {
            types = type_rows_fit e empty;
            defs = ids_fit (full_name m) (rows_of m 0x02) there.defs;
            fields = ids_fit (λ row. text m 0x04 row 1) (rows_of m 0x04) there.fields;
            methods = ids_fit (λ row. text m 0x06 row 3) (rows_of m 0x06) there.methods;
          }
