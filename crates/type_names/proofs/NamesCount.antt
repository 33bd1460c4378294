-- How many names a world has.
use Rattle.std.proofs.Common.{◌≡◌, ℕ, ◌+◌, ◌<◌, ◌≤◌, Bool, List, [], ◌∷◌, ◌++◌, map, filter, length, is_none, refl, sym, ap, ◌∙◌, arith}
use Rattle.std.specs.List.{list_any, flat_map, enumerate_from, sum_by, range_with_len}
use Rattle.std.specs.Str.{bytes_eq}
use Rattle.std.proofs.lemmas.List.{length-append, length-map}
use Rattle.std.proofs.lemmas.List.FromFn.{length-range_with_len, length-map-range_with_len}
use Rattle.std.proofs.lemmas.List.Sums.{sum_by-cons}
use Rattle.cli_tables.specs.Metadata.{Metadata}
use Rattle.core_types.specs.CoreLibrary.{texts_in_order}
use Rattle.core_types.specs.CoreLibrary as core
use Rattle.core_types.specs.CoreTable.{text}
use Rattle.image_rows.specs.Cells as Cells
use Rattle.image_rows.specs.Cells.{rows, rows_of}
use Rattle.type_names.specs.Resolution.{resolved}
use Rattle.image_rows.specs.TypeNames.{full_name, name_of_ref}
use Rattle.core_types.specs.Names.{with_one, with_all, first_seen}
use Rattle.type_names.specs.WorldNames.{missing_refs, file_texts, names}
use Rattle.core_types.proofs.CoreNames.{names_listed}
use Rattle.clr_base.proofs.ListFacts.{choose}

-- ---- a list of texts, each once

one_more_at_most : (seen : List (List ℕ)) (x : List ℕ) → length (with_one bytes_eq seen x) ≤ length seen + 1
one_more_at_most seen x =
    choose (λ l. length l ≤ length seen + 1) (list_any (bytes_eq x) seen) seen (seen ++ x ∷ []) (λ _. omega arith)
    (λ _. omega (arith, length-append seen (x ∷ [])))

none_fewer : (seen : List (List ℕ)) (x : List ℕ) → length seen ≤ length (with_one bytes_eq seen x)
none_fewer seen x =
    choose (λ l. length seen ≤ length l) (list_any (bytes_eq x) seen) seen (seen ++ x ∷ []) (λ _. omega arith)
    (λ _. omega (arith, length-append seen (x ∷ [])))

few : (seen texts : List (List ℕ)) → length (with_all bytes_eq seen texts) ≤ length seen + length texts
few seen [] = omega arith
few seen (x ∷ xs) = omega (arith, few (with_one bytes_eq seen x) xs, one_more_at_most seen x)

kept : (seen texts : List (List ℕ)) → length seen ≤ length (with_all bytes_eq seen texts)
kept seen [] = omega arith
kept seen (x ∷ xs) = omega (arith, kept (with_one bytes_eq seen x) xs, none_fewer seen x)

in_two : (seen xs ys : List (List ℕ)) → with_all bytes_eq seen (xs ++ ys) ≡ with_all bytes_eq (with_all bytes_eq seen xs) ys
in_two seen [] ys = refl
in_two seen (x ∷ xs) ys = in_two (with_one bytes_eq seen x) xs ys

-- ---- the core has 52, and the empty name is another

core_and_empty : with_one bytes_eq core.names [] ≡ map text (range_with_len 0 52) ++ [] ∷ []
unfolding text
core_and_empty = let is : with_one bytes_eq (map text (range_with_len 0 52)) [] ≡ map text (range_with_len 0 52) ++ [] ∷ [] = refl in ap (λ l. with_one bytes_eq l []) (sym names_listed) ∙ is

core_count : length (with_one bytes_eq core.names []) ≡ 53
core_count = ap length core_and_empty ∙ length-append (map text (range_with_len 0 52)) ([] ∷ []) ∙ ap (λ (n : ℕ). n + 1) (length-map-range_with_len text 0 52)

first_ones : (rest : List (List ℕ)) → first_seen (texts_in_order ++ [] ∷ [] ++ rest) ≡ with_all bytes_eq (with_one bytes_eq core.names []) rest
unfolding core.names
first_ones rest = in_two [] (texts_in_order ++ [] ∷ []) rest ∙ ap (λ l. with_all bytes_eq l rest) (in_two [] texts_in_order ([] ∷ []))

-- so there are more than 52
pub more_than_core : (files : List Metadata) → 52 < length (names files)
unfolding names
more_than_core files =
    let rest = flat_map (file_texts files) (enumerate_from 0 files) in
    omega (arith, ap length (first_ones rest), core_count, kept (with_one bytes_eq core.names []) rest)

-- ---- the files' names are at most as many as their rows

filtered : {X : Type 0} (p : X → Bool) (xs : List X) → length (filter p xs) ≤ length xs
filtered p [] = omega arith
filtered p (x ∷ xs) = choose (λ l. length l ≤ length (x ∷ xs)) (p x) (x ∷ filter p xs) (filter p xs) (λ _. omega (arith, filtered p xs)) (λ _. omega (arith, filtered p xs))

-- how many rows of a file have names
abbrev pub named_rows : Metadata → ℕ
named_rows m = rows m 0x02 + rows m 0x01 + rows m 0x04 + rows m 0x06

file_few : (files : List Metadata) (k : ℕ) (m : Metadata) → length (file_texts files (k, m)) ≤ named_rows m
unfolding file_texts
file_few files k m =
    let defs = length-map-range_with_len (full_name m) 1 (rows m 0x02) in
    let refs = length-map (missing_refs files k m) (name_of_ref m) in
    let missing = filtered (λ row. is_none (resolved files k m row)) (rows_of m 0x01) in
    let count = length-range_with_len 1 (rows m 0x01) in
    let fields = length-map-range_with_len (λ row. Cells.text m 0x04 row 1) 1 (rows m 0x04) in
    let methods = length-map-range_with_len (λ row. Cells.text m 0x06 row 3) 1 (rows m 0x06) in
    let one = length-append (map (full_name m) (rows_of m 0x02)) (map (name_of_ref m) (missing_refs files k m)) in
    let two = length-append (map (full_name m) (rows_of m 0x02) ++ map (name_of_ref m) (missing_refs files k m)) (map (λ row. Cells.text m 0x04 row 1) (rows_of m 0x04)) in
    let three = length-append (map (full_name m) (rows_of m 0x02) ++ map (name_of_ref m) (missing_refs files k m) ++ map (λ row. Cells.text m 0x04 row 1) (rows_of m 0x04)) (map (λ row. Cells.text m 0x06 row 3) (rows_of m 0x06)) in
    omega (arith, defs, refs, missing, count, fields, methods, one, two, three)

files_few : (files : List Metadata) (n : ℕ) (ms : List Metadata) → length (flat_map (file_texts files) (enumerate_from n ms)) ≤ sum_by named_rows ms
files_few files n [] = omega arith
files_few files n (m ∷ ms) =
    omega (arith, length-append (file_texts files (n, m)) (flat_map (file_texts files) (enumerate_from (n + 1) ms)), file_few files n m, files_few files (n + 1) ms, sum_by-cons named_rows m ms)

pub names_few : (files : List Metadata) → length (names files) ≤ 53 + sum_by named_rows files
unfolding names
names_few files =
    let rest = flat_map (file_texts files) (enumerate_from 0 files) in
    omega (arith, ap length (first_ones rest), core_count, few (with_one bytes_eq core.names []) rest, files_few files 0 files)
