-- What is found by numbers is what is found by texts.
use Rattle.std.proofs.Common.{◌≡◌, ℕ, zero, suc, ◌+◌, ◌<◌, ◌≤◌, Bool, true, false, ◌||◌, ◌&&◌, cond, eqb, List, [], ◌∷◌, map, length, get_or, Option, Some, refl, sym, ap, ap₂, ◌∙◌, arith, eqb-true}
use Rattle.std.specs.Prelude.{not}
use Rattle.std.specs.List.{find, list_all, list_any, range_with_len}
use Rattle.std.specs.Str.{bytes_eq}
use Rattle.std.proofs.Math.Bool.{and_assoc}
use Rattle.std.proofs.lemmas.Bool.{and_parts, eq-eqb}
use Rattle.std.proofs.lemmas.Bool.Decides.{same_from_decides}
use Rattle.std.proofs.lemmas.List.{get_or-map}
use Rattle.std.proofs.lemmas.List.FromFn.{get_or-map-range_with_len}
use Rattle.std.proofs.lemmas.Slice.Eq.{bytes_eq-Decides}
use Rattle.clr_base.specs.declared.ids.NameId.{NameId}
use Rattle.type_names.specs.declared.type_keys.FirstPlaces.{FirstPlaces}
use Rattle.type_names.specs.declared.type_keys.TypeKey.{TypeKey}
use Rattle.type_names.specs.declared.type_texts.NameColumns.{NameColumns}
use Rattle.core_types.specs.Names.{number_in, id_in}
use Rattle.type_names.specs.TypeFinders.{FindsTypes, is_called, key_in}
use Rattle.type_names.specs.TypeKeys.{Finds, first_of, key_at, key_of, keys_of, number_at, same_key}
use Rattle.type_names.specs.TypeTexts.{AreNamed, AreNumbers}
use Rattle.type_names.proofs.KeyLists.{keys_count}
use Rattle.clr_base.proofs.ListFacts.{found_within}
use Rattle.type_names.proofs.Settled.{settled_now}

-- ---- equal numbers are those of equal texts

module _ (n t s : List ℕ) (names : List (List ℕ)) where
  both_sides : (b c : Bool) → bytes_eq t n ≡ b → bytes_eq s n ≡ c → (list_any (bytes_eq t) names ≡ true → number_in names t ≡ number_in names s → t ≡ s)
      → (b || list_any (bytes_eq t) names) ≡ true → cond (not b) (1 + number_in names t) 0 ≡ cond (not c) (1 + number_in names s) 0 → t ≡ s
  both_sides true true e f rest among same = (bytes_eq-Decides t n).0 e ∙ sym ((bytes_eq-Decides s n).0 f)
  both_sides true false e f rest among same = absurd (omega (arith, same))
  both_sides false true e f rest among same = absurd (omega (arith, same))
  both_sides false false e f rest among same = rest among (omega (arith, same))

number_is : (names : List (List ℕ)) (t s : List ℕ) → list_any (bytes_eq t) names ≡ true → number_in names t ≡ number_in names s → t ≡ s
number_is [] t s among same = absurd cc
number_is (n ∷ names) t s among same = both_sides n t s names (bytes_eq t n) (bytes_eq s n) refl refl (number_is names t s) among same

pub same_number : (names : List (List ℕ)) (t s : List ℕ) → list_any (bytes_eq t) names ≡ true → bytes_eq t s ≡ eqb (number_in names s) (number_in names t)
same_number names t s among =
    same_from_decides (bytes_eq t s) (eqb (number_in names s) (number_in names t)) (bytes_eq-Decides t s) (
      (λ h. number_is names t s among (sym (eqb-true (number_in names s) (number_in names t) h))),
      (λ e. eq-eqb (number_in names s) (number_in names t) (ap (number_in names) (sym e))),
    )

-- ---- the text at a place

all_in : {X : Type 0} (p : X → Bool) (xs : List X) (i : ℕ) (d : X) → list_all p xs ≡ true → i < length xs → p (get_or xs i d) ≡ true
all_in p [] i d all within = absurd (omega arith)
all_in p (x ∷ xs) zero d all within = (and_parts (p x) (list_all p xs) all).0
all_in p (x ∷ xs) (suc i) d all within = all_in p xs i d (and_parts (p x) (list_all p xs) all).1 (omega arith)

pub number_there : (names texts : List (List ℕ)) (ids : List NameId) (i : ℕ) → AreNumbers names texts ids → i < length texts
    → number_at ids i ≡ number_in names (get_or texts i [])
number_there names texts ids i are within =
    ap (λ (l : List NameId). number_at l i) (settled_now (λ ns. map (id_in ns) texts) names ids are.settled)
    ∙ ap (λ (id : NameId). id.0) (get_or-map (id_in names) texts i [] _ within)

pub among_there : (names texts : List (List ℕ)) (ids : List NameId) (i : ℕ) → AreNumbers names texts ids → i < length texts
    → list_any (bytes_eq (get_or texts i [])) names ≡ true
among_there names texts ids i are within = all_in (λ t. list_any (bytes_eq t) names) texts i [] are.among within

-- ---- the first place of a name

find_same : (p q : ℕ → Bool) (a n : ℕ) → ((i : ℕ) → a ≤ i → i < a + n → p i ≡ q i) → find p (range_with_len a n) ≡ find q (range_with_len a n)
find_same p q a zero each = refl
find_same p q a (suc n) each =
    ap₂ (λ (b : Bool) (o : Option ℕ). cond b (Some a) o) (each a (omega arith) (omega arith))
    (find_same p q (a + 1) n (λ i first last. each i (omega arith) (omega arith)))

eqb_turned : (a b : ℕ) → eqb a b ≡ eqb b a
eqb_turned a b =
    same_from_decides (eqb a b) (eqb b a) ((λ h. eqb-true a b h), (λ e. eq-eqb a b e)) ((λ h. sym (eqb-true b a h)), (λ e. eq-eqb b a (sym e)))

module _ (names : List (List ℕ)) (count : ℕ) (around : ℕ → ℕ) (outer own : List (List ℕ)) (columns : NameColumns) (named : AreNamed names outer own columns) (outer_all : length outer ≡ count) (own_all : length own ≡ count) where
  key_there : (i : ℕ) → i < count → key_at (keys_of around columns count) i ≡ key_in names (around i) (get_or outer i []) (get_or own i [])
  key_there i within =
      let one = number_there names outer columns.namespaces i named.namespaces (omega (arith, within, outer_all)) in
      let other = number_there names own columns.names i named.names (omega (arith, within, own_all)) in
      get_or-map-range_with_len (key_of around columns) 0 count i i _ within (omega arith)
      ∙ ap₂ (λ (x y : ℕ). let key : TypeKey = record { around = around i; namespace = x; name = y } in key) one other

  same_there : (a : ℕ) (s t : List ℕ) (i : ℕ) → i < count
      → same_key (key_in names a s t) (key_at (keys_of around columns count) i)
      ≡ is_called around (λ i. get_or outer i []) (λ i. get_or own i []) a s t i
  same_there a s t i within =
      let one = same_number names (get_or outer i []) s (among_there names outer columns.namespaces i named.namespaces (omega (arith, within, outer_all))) in
      let other = same_number names (get_or own i []) t (among_there names own columns.names i named.names (omega (arith, within, own_all))) in
      ap (same_key (key_in names a s t)) (key_there i within)
      ∙ ap (λ (b : Bool). b && (eqb (number_in names s) (number_in names (get_or outer i [])) && eqb (number_in names t) (number_in names (get_or own i []))))
      (eqb_turned a (around i))
      ∙ ap₂ (λ (b c : Bool). eqb (around i) a && (b && c)) (sym one) (sym other)
      ∙ sym (and_assoc (eqb (around i) a) (bytes_eq (get_or outer i []) s) (bytes_eq (get_or own i []) t))

  pub finds_types : (places : FirstPlaces) (space name : ℕ → List ℕ) → Finds (keys_of around columns count) places
      → ((i : ℕ) → i < count → get_or outer i [] ≡ space i) → ((i : ℕ) → i < count → get_or own i [] ≡ name i)
      → FindsTypes names count around space name places
  finds_types places space name found first second =
      let long = keys_count around columns count in
      record {
        few = λ key i e.
            let inside = found_within (λ j. same_key key (key_at (keys_of around columns count) j)) 0 (length (keys_of around columns count)) i (sym (found.each key) ∙ e) in
            omega (arith, inside.1, found.few);
        each = λ a s t.
            found.each (key_in names a s t)
            ∙ ap (first_of (keys_of around columns count) (key_in names a s t)) long
            ∙ find_same (λ i. same_key (key_in names a s t) (key_at (keys_of around columns count) i)) (is_called around space name a s t) 0 count
            (λ i low high.
            let within : i < count = omega (arith, high) in
            same_there a s t i within
            ∙ ap₂ (λ (x y : List ℕ). eqb (around i) a && bytes_eq x s && bytes_eq y t) (first i within) (second i within));
      }
