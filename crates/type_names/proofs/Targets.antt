-- What the references of a file name, row by row.
use Rattle.std.proofs.Common.{◌≡◌, ℕ, zero, suc, ◌+◌, ◌<◌, ◌≤◌, cond, List, [], ◌∷◌, ◌++◌, map, length, get_or, subst, Option, Some, None, refl, sym, ap, ◌∙◌, arith, length-append}
use Rattle.std.specs.Prelude.{filter, is_none, slice_get}
use Rattle.std.specs.List.{range_with_len, flat_map, enumerate_from}
use Rattle.std.specs.Str.{bytes_eq}
use Rattle.std.proofs.lemmas.List.{get_or-map, length-map, append-nil}
use Rattle.std.proofs.lemmas.List.Concat.{flat_map-append}
use Rattle.std.proofs.lemmas.List.FromFn.{length-enumerate_from, get_or-enumerate_from, length-map-range_with_len, get_or-map-range_with_len, map-range_with_len_more}
use Rattle.std.proofs.lemmas.Option.{slice_get_within, get_or_from_slice_get}
use Rattle.clr_base.specs.declared.ids.NameId.{NameId}
use Rattle.cli_tables.specs.Metadata.{Metadata}
use Rattle.type_names.specs.declared.resolution.DefPlace.{DefPlace}
use Rattle.type_names.specs.declared.type_rows.Target.TheVariants as target
use Rattle.image_rows.specs.Cells.{rows, rows_of}
use Rattle.core_types.specs.Names.{with_one, with_all, id_in}
use Rattle.type_names.specs.Numbering.{IsSettled, missing_text}
use Rattle.type_names.specs.WorldNames.{target_in}
use Rattle.type_names.specs.Resolution.{resolved, all_places, places_in}
use Rattle.type_names.proofs.Settled.{all_append, few_more, settled_on, settled_one, settled_push}

-- ---- what the rows name

module _ (files : List Metadata) (lists : List (List (Option DefPlace))) (k : ℕ) (m : Metadata) (all : lists ≡ all_places files) (there : slice_get files k ≡ Some m) where
  pub lists_inside : k < length lists
  unfolding all_places
  lists_inside =
      let inside = slice_get_within files k m there in
      let count : length lists ≡ length files = ap length all ∙ length-map (enumerate_from 0 files) (places_in files) ∙ length-enumerate_from 0 files in
      omega arith

  pub list_read : (d : List (Option DefPlace)) → get_or lists k d ≡ map (resolved files k m) (rows_of m 0x01)
  unfolding all_places
  list_read d =
      let inside = slice_get_within files k m there in
      let within : k < length (enumerate_from 0 files) = omega (arith, length-enumerate_from 0 files) in
      let place : 0 + k ≡ k = omega arith in
      ap (λ (ls : List (List (Option DefPlace))). get_or ls k d) all
      ∙ get_or-map (places_in files) (enumerate_from 0 files) k (0, m) d within
      ∙ ap (places_in files) (get_or-enumerate_from 0 files k (0, m) inside)
      ∙ ap (λ (x : Metadata). places_in files (0 + k, x)) (get_or_from_slice_get files k m m there)
      ∙ ap (λ (i : ℕ). places_in files (i, m)) place

module _ (f : ℕ → Option DefPlace) (m : Metadata) (places : List (Option DefPlace)) (are : places ≡ map f (rows_of m 0x01)) (row : ℕ) (within : row < rows m 0x01) where
  pub place_inside : row < length places
  place_inside =
      let count : length places ≡ rows m 0x01 = ap length are ∙ length-map-range_with_len f 1 (rows m 0x01) in
      omega arith

  pub place_read : (d : Option DefPlace) → get_or places row d ≡ f (row + 1)
  place_read d =
      ap (λ (ps : List (Option DefPlace)). get_or ps row d) are ∙ get_or-map-range_with_len f 1 (rows m 0x01) row (row + 1) d within (omega arith)

-- ---- names of those that are missing

pub missing_settled : (files : List Metadata) (names new : List (List ℕ)) (name text : List ℕ) (place : Option DefPlace) (id : NameId) → place ≡ None → text ≡ name
    → new ≡ with_one bytes_eq names text → id ≡ id_in names text → IsSettled new (λ ns. target_in ns files name place) (target.Missing id)
missing_settled files names new name text place id none text_is e is = record {
  is = λ more.
      let named = (settled_one names text id is).is more in
      ap target.Missing named ∙ ap (λ (ns : List (List ℕ)). target.Missing (id_in (with_all bytes_eq ns more) text)) (sym e)
      ∙ ap (λ (t : List ℕ). target.Missing (id_in (with_all bytes_eq new more) t)) text_is
      ∙ ap (λ (p : Option DefPlace). target_in (with_all bytes_eq new more) files name p) (sym none);
}

one_listed : (f : ℕ → List ℕ) (x : ℕ) (o : Option DefPlace) (rest : List (List ℕ)) (others : List ℕ) → rest ≡ map f others
    → missing_text (f x) o ++ rest ≡ map f (cond (is_none o) (x ∷ others) others)
one_listed f x None rest others e = ap (λ (l : List (List ℕ)). f x ∷ l) e
one_listed f x (Some place) rest others e = e

pub missing_listed : (f : ℕ → List ℕ) (g : ℕ → Option DefPlace) (xs : List ℕ) → flat_map (λ x. missing_text (f x) (g x)) xs ≡ map f (filter (λ x. is_none (g x)) xs)
missing_listed f g [] = refl
missing_listed f g (x ∷ xs) = one_listed f x (g x) _ (filter (λ x. is_none (g x)) xs) (missing_listed f g xs)

one_few : (name : List ℕ) (o : Option DefPlace) → length (missing_text name o) ≤ 1
one_few name None = omega arith
one_few name (Some place) = omega arith

missing_few : (f : ℕ → List ℕ) (g : ℕ → Option DefPlace) (a n : ℕ) → length (flat_map (λ x. missing_text (f x) (g x)) (range_with_len a n)) ≤ n
missing_few f g a zero = omega arith
missing_few f g a (suc n) =
    omega (arith, one_few (f a) (g a), missing_few f g (a + 1) n, length-append (missing_text (f a) (g a)) (flat_map (λ x. missing_text (f x) (g x)) (range_with_len (a + 1) n)))

pub names_few : (f : ℕ → List ℕ) (g : ℕ → Option DefPlace) (count n : ℕ) (old names : List (List ℕ))
    → names ≡ with_all bytes_eq old (flat_map (λ x. missing_text (f x) (g x)) (range_with_len 1 n)) → n ≤ count → length names ≤ length old + count
names_few f g count n old names is few =
    omega (arith, ap length is, few_more old (flat_map (λ x. missing_text (f x) (g x)) (range_with_len 1 n)), missing_few f g 1 n)

-- ---- one row more

same_map : (xs : List ℕ) → map (λ (x : ℕ). x) xs ≡ xs
same_map [] = refl
same_map (x ∷ xs) = ap (λ (l : List ℕ). x ∷ l) (same_map xs)

row_more : (row : ℕ) → range_with_len 1 (row + 1) ≡ range_with_len 1 row ++ (row + 1) ∷ []
row_more row =
    sym (same_map (range_with_len 1 (row + 1))) ∙ map-range_with_len_more (λ (x : ℕ). x) 1 row (row + 1) (omega arith)
    ∙ ap (λ (l : List ℕ). l ++ (row + 1) ∷ []) (same_map (range_with_len 1 row))

module _ {X : Type 0} (texts : X → List (List ℕ)) (old names new : List (List ℕ)) where
  -- the texts of one item more
  pub names_after : (xs ys : List X) (x : X) → ys ≡ xs ++ x ∷ [] → names ≡ with_all bytes_eq old (flat_map texts xs) → new ≡ with_all bytes_eq names (texts x)
      → new ≡ with_all bytes_eq old (flat_map texts ys)
  names_after xs ys x longer before e =
      e ∙ ap (λ (ns : List (List ℕ)). with_all bytes_eq ns (texts x)) before ∙ sym (all_append old (flat_map texts xs) (texts x))
      ∙ ap (λ (l : List (List ℕ)). with_all bytes_eq old (flat_map texts xs ++ l)) (sym (append-nil (texts x)))
      ∙ ap (with_all bytes_eq old) (sym (flat_map-append texts xs (x ∷ []))) ∙ ap (λ (l : List X). with_all bytes_eq old (flat_map texts l)) (sym longer)

module _ {A X : Type 0} (of : List (List ℕ) → X → A) (names new : List (List ℕ)) where
  -- what comes of one item more
  pub items_after : (texts : List (List ℕ)) (xs ys : List X) (x : X) (items longer : List A) (item : A) → ys ≡ xs ++ x ∷ []
      → IsSettled names (λ ns. map (of ns) xs) items → new ≡ with_all bytes_eq names texts → IsSettled new (λ ns. of ns x) item → longer ≡ items ++ item ∷ []
      → IsSettled new (λ ns. map (of ns) ys) longer
  items_after texts xs ys x items longer item more before e last pushed = record {
    is = λ later.
        let on = settled_on (λ ns. map (of ns) xs) names texts items before in
        let here : IsSettled new (λ ns. map (of ns) xs) items = subst (λ (ns : List (List ℕ)). IsSettled ns (λ ns. map (of ns) xs) items) (sym e) on in
        pushed ∙ (settled_push of new xs x items item here last).is later ∙ ap (λ (l : List X). map (of (with_all bytes_eq new later)) l) (sym more);
  }

pub names_row : (texts : ℕ → List (List ℕ)) (row : ℕ) (old names new : List (List ℕ)) → names ≡ with_all bytes_eq old (flat_map texts (range_with_len 1 row))
    → new ≡ with_all bytes_eq names (texts (row + 1)) → new ≡ with_all bytes_eq old (flat_map texts (range_with_len 1 (row + 1)))
names_row texts row old names new before e =
    names_after texts old names new (range_with_len 1 row) (range_with_len 1 (row + 1)) (row + 1) (row_more row) before e

pub items_row : {A : Type 0} (of : List (List ℕ) → ℕ → A) (row : ℕ) (names new texts : List (List ℕ)) (items longer : List A) (item : A)
    → IsSettled names (λ ns. map (of ns) (range_with_len 1 row)) items → new ≡ with_all bytes_eq names texts → IsSettled new (λ ns. of ns (row + 1)) item
    → longer ≡ items ++ item ∷ [] → IsSettled new (λ ns. map (of ns) (range_with_len 1 (row + 1))) longer
items_row of row names new texts items longer item before e last pushed =
    items_after of names new texts (range_with_len 1 row) (range_with_len 1 (row + 1)) (row + 1) items longer item (row_more row) before e last pushed
