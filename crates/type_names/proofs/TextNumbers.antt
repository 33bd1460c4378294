-- Texts that are numbered, and stay so while more come.
use Rattle.std.proofs.Common.{◌≡◌, ℕ, ◌+◌, ◌≤◌, Bool, true, List, [], ◌∷◌, ◌++◌, map, length, refl, sym, ap, ◌∙◌, subst, arith}
use Rattle.std.specs.List.{list_all, list_any}
use Rattle.std.specs.Str.{bytes_eq}
use Rattle.std.proofs.lemmas.Bool.{and_parts}
use Rattle.std.proofs.lemmas.List.FromFn.{length-map-range_with_len}
use Rattle.clr_base.specs.declared.ids.NameId.{NameId}
use Rattle.cli_tables.specs.Metadata.{Metadata}
use Rattle.type_names.specs.declared.type_texts.CoreTexts.{CoreTexts}
use Rattle.type_names.specs.declared.type_texts.FileTexts.{FileTexts}
use Rattle.type_names.specs.declared.type_texts.NameColumns.{NameColumns}
use Rattle.core_types.specs.Names.{with_one, with_all, id_in}
use Rattle.type_names.specs.Numbering.{IsSettled, column_texts}
use Rattle.type_names.specs.TypeTexts.{AreCoreTexts, AreFileTexts, AreNamed, AreNumbers, Extends, core_assembly, in_order}
use Rattle.type_names.specs.Resolution.{core_namespace, core_type_name}
use Rattle.clr_base.proofs.ListFacts.{both}
use Rattle.clr_base.proofs.Ranges.{map_more}
use Rattle.type_names.proofs.Settled.{all_append, among_more, among_one, few_more, settled_one, settled_more, settled_on, settled_push}

-- ---- more names

pub extends_by : (old new xs : List (List ℕ)) → new ≡ with_all bytes_eq old xs → Extends old new
extends_by old new xs e = record { more = xs; is = e }

pub extends_on : (old mid new : List (List ℕ)) → Extends old mid → Extends mid new → Extends old new
extends_on old mid new one other = record {
  more = one.more ++ other.more;
  is = other.is ∙ ap (λ (ns : List (List ℕ)). with_all bytes_eq ns other.more) one.is ∙ sym (all_append old one.more other.more);
}

-- ---- what is among names

among_on : (t : List ℕ) (names more : List (List ℕ)) → list_any (bytes_eq t) names ≡ true → list_any (bytes_eq t) (with_all bytes_eq names more) ≡ true
among_on t names [] among = among
among_on t names (u ∷ more) among = among_on t (with_one bytes_eq names u) more (among_more t names u among)

all_kept : {X : Type 0} (p q : X → Bool) (xs : List X) → ((x : X) → p x ≡ true → q x ≡ true) → list_all p xs ≡ true → list_all q xs ≡ true
all_kept p q [] each all = refl
all_kept p q (x ∷ xs) each all =
    let parts = and_parts (p x) (list_all p xs) all in
    both (q x) (list_all q xs) (each x parts.0) (all_kept p q xs each parts.1)

all_among : (names xs : List (List ℕ)) → list_all (λ t. list_any (bytes_eq t) (with_all bytes_eq names xs)) xs ≡ true
all_among names [] = refl
all_among names (x ∷ xs) =
    both (list_any (bytes_eq x) (with_all bytes_eq (with_one bytes_eq names x) xs)) (list_all (λ t. list_any (bytes_eq t) (with_all bytes_eq (with_one bytes_eq names x) xs)) xs)
    (among_on x (with_one bytes_eq names x) xs (among_one x names)) (all_among (with_one bytes_eq names x) xs)

-- ---- numbers

pub numbers_new : (old new xs : List (List ℕ)) (ids : List NameId) → new ≡ with_all bytes_eq old xs → IsSettled new (λ ns. map (id_in ns) xs) ids → AreNumbers new xs ids
numbers_new old new xs ids e settled = record {
  settled = settled;
  among = ap (λ (ns : List (List ℕ)). list_all (λ t. list_any (bytes_eq t) ns) xs) e ∙ all_among old xs;
}

pub settled_by : {A : Type 0} (of : List (List ℕ) → A) (old new : List (List ℕ)) (x : A) → Extends old new → IsSettled old of x → IsSettled new of x
settled_by of old new x more before = subst (λ (ns : List (List ℕ)). IsSettled ns of x) (sym more.is) (settled_on of old more.more x before)

pub numbers_on : (old new xs : List (List ℕ)) (ids : List NameId) → Extends old new → AreNumbers old xs ids → AreNumbers new xs ids
numbers_on old new xs ids more before = record {
  settled = settled_by (λ ns. map (id_in ns) xs) old new ids more before.settled;
  among =
      ap (λ (ns : List (List ℕ)). list_all (λ t. list_any (bytes_eq t) ns) xs) more.is
      ∙ all_kept (λ t. list_any (bytes_eq t) old) (λ t. list_any (bytes_eq t) (with_all bytes_eq old more.more)) xs
      (λ t among. among_on t old more.more among) before.among;
}

pub named_on : (old new namespaces own : List (List ℕ)) (found : NameColumns) → Extends old new → AreNamed old namespaces own found → AreNamed new namespaces own found
named_on old new namespaces own found more before = record {
  namespaces = numbers_on old new namespaces found.namespaces more before.namespaces;
  names = numbers_on old new own found.names more before.names;
}

pub file_on : (old new : List (List ℕ)) (m : Metadata) (found : FileTexts) → Extends old new → AreFileTexts old m found → AreFileTexts new m found
file_on old new m found more before = record {
  defs = named_on old new (column_texts m 0x02 2) (column_texts m 0x02 1) found.defs more before.defs;
  refs = named_on old new (column_texts m 0x01 2) (column_texts m 0x01 1) found.refs more before.refs;
  assembly_refs = numbers_on old new (column_texts m 0x23 6) found.assembly_refs more before.assembly_refs;
  assemblies = numbers_on old new (column_texts m 0x20 7) found.assemblies more before.assemblies;
}

pub core_on : (old new : List (List ℕ)) (found : CoreTexts) → Extends old new → AreCoreTexts old found → AreCoreTexts new found
core_on old new found more before = record {
  types = named_on old new (in_order core_namespace 36) (in_order core_type_name 36) found.types more before.types;
  assemblies = numbers_on old new (in_order core_assembly 5) found.assemblies more before.assemblies;
  empty = settled_by (λ ns. id_in ns []) old new found.empty more before.empty;
}

pub empty_numbered : (old new : List (List ℕ)) (id : NameId) → new ≡ with_one bytes_eq old [] → id ≡ id_in old [] → IsSettled new (λ ns. id_in ns []) id
empty_numbered old new id e is = subst (λ (ns : List (List ℕ)). IsSettled ns (λ ns. id_in ns []) id) (sym e) (settled_one old [] id is)

-- ---- texts in order, one more

-- the names once some of the texts were numbered, and the numbers
pub record AreFirst (text : ℕ → List ℕ) (n : ℕ) (old new : List (List ℕ)) (found : List NameId) : Type 0 where
  pub names : new ≡ with_all bytes_eq old (in_order text n)
  pub ids : IsSettled new (λ ns. map (id_in ns) (in_order text n)) found

module _ (text : ℕ → List ℕ) (old : List (List ℕ)) where
  pub first_none : (ids : List NameId) → ids ≡ [] → AreFirst text 0 old old ids
  first_none ids e = record { names = refl; ids = record { is = λ more. e } }

  pub first_more : (n : ℕ) (names new : List (List ℕ)) (t : List ℕ) (id : NameId) (ids ids' : List NameId) → AreFirst text n old names ids
      → t ≡ text n → new ≡ with_one bytes_eq names t → id ≡ id_in names t → ids' ≡ ids ++ id ∷ [] → AreFirst text (n + 1) old new ids'
  first_more n names new t id ids ids' before this e is pushed =
      let added : new ≡ with_one bytes_eq names (text n) = e ∙ ap (with_one bytes_eq names) this in
      let last = settled_one names (text n) id (is ∙ ap (id_in names) this) in
      let all = settled_push id_in (with_one bytes_eq names (text n)) (in_order text n) (text n) ids id
      (settled_more (λ ns. map (id_in ns) (in_order text n)) names (text n) ids before.ids) last in
      record {
        names =
            added ∙ ap (λ (ns : List (List ℕ)). with_one bytes_eq ns (text n)) before.names
            ∙ sym (all_append old (in_order text n) (text n ∷ []))
            ∙ ap (with_all bytes_eq old) (sym (map_more text n));
        ids = record {
          is = λ more.
              pushed ∙ all.is more ∙ ap (λ xs. map (id_in (with_all bytes_eq (with_one bytes_eq names (text n)) more)) xs) (sym (map_more text n))
              ∙ ap (λ (ns : List (List ℕ)). map (id_in (with_all bytes_eq ns more)) (in_order text (n + 1))) (sym added);
        };
      }

  pub first_few : (n : ℕ) (names : List (List ℕ)) (ids : List NameId) → AreFirst text n old names ids → length names ≤ length old + n
  first_few n names ids before = omega (arith, ap length before.names, few_more old (in_order text n), length-map-range_with_len text 0 n)

  pub first_extends : (n : ℕ) (names : List (List ℕ)) (ids : List NameId) → AreFirst text n old names ids → Extends old names
  first_extends n names ids before = extends_by old names (in_order text n) before.names

  pub first_numbers : (n k : ℕ) (names : List (List ℕ)) (ids : List NameId) → n ≡ k → AreFirst text n old names ids → AreNumbers names (in_order text k) ids
  first_numbers n k names ids all before =
      subst (λ (i : ℕ). AreNumbers names (in_order text i) ids) all (numbers_new old names (in_order text n) ids before.names before.ids)
