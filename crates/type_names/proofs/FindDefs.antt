-- The definitions of the core and of files that are found.
use Rattle.std.proofs.Common.{◌≡◌, ℕ, zero, suc, ◌+◌, ◌<◌, inl, inr, Bool, true, false, cond, List, Option, None, Some, refl, sym, ap, ◌∙◌, arith}
use Rattle.std.specs.Prelude.{slice_get}
use Rattle.std.specs.List.{find, range_with_len}
use Rattle.std.specs.Option.{option_and_then, option_map}
use Rattle.std.proofs.lemmas.Option.{slice_get_cases, slice_get_past, slice_get_within}
use Rattle.cli_tables.specs.Metadata.{Metadata}
use Rattle.type_names.specs.declared.resolution.DefPlace.{DefPlace}
use Rattle.type_names.specs.declared.resolution.DefPlace.TheVariants.{InFile}
use Rattle.type_names.specs.declared.type_keys.FirstPlaces.{FirstPlaces}
use Rattle.type_names.specs.declared.type_keys.TypeKey.{TypeKey}
use Rattle.image_rows.specs.Cells.{rows}
use Rattle.type_names.specs.Resolution.{core_type, def_row, is_def, def_in, core_namespace, core_type_name}
use Rattle.type_names.specs.TypeFinders.{AreDefs, FindsDefs, FindsTypes, key_in}
use Rattle.type_names.specs.TypeKeys.{first_at}

-- ---- of the core

pub core_found : (names : List (List ℕ)) (p : FirstPlaces) (key : TypeKey) (s t : List ℕ) → FindsTypes names 36 (λ i. 0) core_namespace core_type_name p
    → key ≡ key_in names 0 s t → first_at p key ≡ core_type s t
unfolding core_type core_namespace core_type_name
core_found names p key s t found is = ap (first_at p) is ∙ found.each 0 s t

-- ---- of a file

module _ {A B : Type 0} (f : A → B) where
  map_chosen : (b : Bool) (x : A) (o : Option A) → option_map f (cond b (Some x) o) ≡ cond b (Some (f x)) (option_map f o)
  map_chosen true x o = refl
  map_chosen false x o = refl

find_behind : (q : ℕ → Bool) (a n : ℕ) → find q (range_with_len (a + 1) n) ≡ option_map (λ i. i + 1) (find (λ i. q (i + 1)) (range_with_len a n))
find_behind q a zero = refl
find_behind q a (suc n) =
    ap (cond (q (a + 1)) (Some (a + 1))) (find_behind q (a + 1) n)
    ∙ sym (map_chosen (λ (i : ℕ). i + 1) (q (a + 1)) a (find (λ i. q (i + 1)) (range_with_len (a + 1) n)))

map_twice : (k : ℕ) (o : Option ℕ) → option_map (λ i. InFile k (i + 1)) o ≡ option_map (InFile k) (option_map (λ i. i + 1) o)
map_twice k None = refl
map_twice k (Some x) = refl

row_found : (names : List (List ℕ)) (m : Metadata) (p : FirstPlaces) (k around : ℕ) (s t : List ℕ) → FindsDefs names m p
    → option_map (λ i. InFile k (i + 1)) (first_at p (key_in names around s t)) ≡ option_map (InFile k) (def_row m around s t)
unfolding def_row
row_found names m p k around s t found =
    map_twice k (first_at p (key_in names around s t))
    ∙ ap (option_map (InFile k)) (ap (option_map (λ i. i + 1)) (found.each around s t) ∙ sym (find_behind (is_def m around s t) 0 (rows m 0x02)))

module _ (names : List (List ℕ)) (files : List Metadata) (defs : List FirstPlaces) (are : AreDefs names files defs) (file : ℕ) where
  -- what a file's index gives
  abbrev given : TypeKey → Option FirstPlaces → Option DefPlace
  given key o = option_and_then (λ p. option_map (λ i. InFile file (i + 1)) (first_at p key)) o

  def_given : (key : TypeKey) (s t : List ℕ) → key ≡ key_in names key.around s t → given key (slice_get defs file) ≡ def_in files file key.around s t
  def_given key s t is =
      elim (slice_get_cases files file).1 [
        | inl there ↦
            elim (slice_get_cases defs file).1 [
              | inl here ↦
                  let found = row_found names there.0 here.0 file key.around s t (are.each file there.0 here.0 there.2 here.2) in
                  ap (given key) here.2 ∙ ap (λ (k : TypeKey). option_map (λ i. InFile file (i + 1)) (first_at here.0 k)) is ∙ found
                  ∙ sym (ap (option_and_then (λ m. option_map (InFile file) (def_row m key.around s t))) there.2)
              | inr past ↦ absurd (omega (arith, past.0, there.1, are.count))
            ]
        | inr past ↦
            ap (given key) (slice_get_past defs file (omega (arith, past.0, are.count)))
            ∙ sym (ap (option_and_then (λ m. option_map (InFile file) (def_row m key.around s t))) past.1)
      ]

  module _ (p : FirstPlaces) (key : TypeKey) (there : slice_get defs file ≡ Some p) where
    pub def_few : (i : ℕ) → first_at p key ≡ Some i → i < 4294967295
    def_few i e =
        elim (slice_get_cases files file).1 [
          | inl here ↦ (are.each file here.0 p here.2 there).few key i e
          | inr past ↦ let inside = slice_get_within defs file p there in absurd (omega (arith, past.0, inside, are.count))
        ]

    pub def_there : (i : ℕ) (s t : List ℕ) → first_at p key ≡ Some i → key ≡ key_in names key.around s t → Some (InFile file (i + 1)) ≡ def_in files file key.around s t
    def_there i s t e is =
        sym (ap (option_map (λ (i : ℕ). InFile file (i + 1))) e) ∙ sym (ap (given key) there) ∙ def_given key s t is

    pub def_missing : (s t : List ℕ) → first_at p key ≡ None → key ≡ key_in names key.around s t → None ≡ def_in files file key.around s t
    def_missing s t e is =
        sym (ap (option_map (λ (i : ℕ). InFile file (i + 1))) e) ∙ sym (ap (given key) there) ∙ def_given key s t is

  pub def_outside : (key : TypeKey) (s t : List ℕ) → slice_get defs file ≡ None → key ≡ key_in names key.around s t → None ≡ def_in files file key.around s t
  def_outside key s t none is = sym (ap (given key) none) ∙ def_given key s t is
