-- Texts that get their numbers row by row.
use Rattle.std.proofs.Common.{◌≡◌, ℕ, ◌+◌, ◌≤◌, Bool, true, false, cond, List, [], ◌∷◌, ◌++◌, map, length, Option, None, Some, eqb, refl, sym, ap, subst, ◌∙◌, arith}
use Rattle.std.specs.List.{range_with_len}
use Rattle.std.specs.Option.{IfSome}
use Rattle.std.specs.Str.{bytes_eq}
use Rattle.std.proofs.lemmas.Bool.{eqb-true}
use Rattle.std.proofs.lemmas.List.FromFn.{length-map-range_with_len, map-range_with_len_more}
use Rattle.indexmap.specs.IndexMap.{IndexMap, get}
use Rattle.clr_base.specs.declared.ids.NameId.{NameId}
use Rattle.cli_tables.specs.Metadata.{Metadata}
use Rattle.core_types.specs.Names.{with_one, with_all, id_in}
use Rattle.type_names.specs.Numbering.{IsSettled, IsNumbered, AreNoted}
use Rattle.image_rows.specs.Cells.{text_by}
use Rattle.type_names.proofs.Settled.{all_append, few_more, numbered_one, numbered_more, settled_one, settled_more, settled_push}

-- ---- one row more

row_more : {X : Type 0} (f : ℕ → X) (row : ℕ) → map f (range_with_len 1 (row + 1)) ≡ map f (range_with_len 1 row) ++ f (row + 1) ∷ []
row_more f row = map-range_with_len_more f 1 row (row + 1) (omega arith)

module _ (f : ℕ → List ℕ) (row : ℕ) where
  pub names_more : (old names new : List (List ℕ)) → names ≡ with_all bytes_eq old (map f (range_with_len 1 row)) → new ≡ with_one bytes_eq names (f (row + 1))
      → new ≡ with_all bytes_eq old (map f (range_with_len 1 (row + 1)))
  names_more old names new before e =
      e ∙ ap (λ (ns : List (List ℕ)). with_one bytes_eq ns (f (row + 1))) before
      ∙ sym (all_append old (map f (range_with_len 1 row)) (f (row + 1) ∷ []))
      ∙ ap (with_all bytes_eq old) (sym (row_more f row))

  pub ids_more : (names new : List (List ℕ)) (ids ids' : List NameId) (id : NameId)
      → IsSettled names (λ ns. map (id_in ns) (map f (range_with_len 1 row))) ids → new ≡ with_one bytes_eq names (f (row + 1))
      → id ≡ id_in names (f (row + 1)) → ids' ≡ ids ++ id ∷ []
      → IsSettled new (λ ns. map (id_in ns) (map f (range_with_len 1 (row + 1)))) ids'
  ids_more names new ids ids' id before e is pushed =
      let last = settled_one names (f (row + 1)) id is in
      let all = settled_push id_in (with_one bytes_eq names (f (row + 1))) (map f (range_with_len 1 row)) (f (row + 1)) ids id
      (settled_more (λ ns. map (id_in ns) (map f (range_with_len 1 row))) names (f (row + 1)) ids before) last in
      record {
        is = λ more.
            pushed ∙ all.is more ∙ ap (λ xs. map (id_in (with_all bytes_eq (with_one bytes_eq names (f (row + 1))) more)) xs) (sym (row_more f row))
            ∙ ap (λ (ns : List (List ℕ)). map (id_in (with_all bytes_eq ns more)) (map f (range_with_len 1 (row + 1)))) (sym e);
      }

pub names_few : (f : ℕ → List ℕ) (count n : ℕ) (old names : List (List ℕ)) → names ≡ with_all bytes_eq old (map f (range_with_len 1 n)) → n ≤ count
    → length names ≤ length old + count
names_few f count n old names is few =
    omega (arith, ap length is, few_more old (map f (range_with_len 1 n)), length-map-range_with_len f 1 n)

-- ---- numbers that are noted

abbrev AreNotedAt : {S : Type 0} → Metadata → List (List ℕ) → IndexMap ℕ NameId S → ℕ → Type 0
AreNotedAt m names noted index = IfSome (get eqb noted index) (λ id. IsNumbered names (text_by m index) id)

chosen : (b : Bool) (P : NameId → Type 0) (id : NameId) (o : Option NameId) → (b ≡ true → P id) → (b ≡ false → IfSome o P) → IfSome (cond b (Some id) o) P
chosen true P id o here other = here refl
chosen false P id o here other = other refl

numbered_on : (names : List (List ℕ)) (t u : List ℕ) (o : Option NameId) → IfSome o (λ id. IsNumbered names t id)
    → IfSome o (λ id. IsNumbered (with_one bytes_eq names u) t id)
numbered_on names t u None before = before
numbered_on names t u (Some id) before = numbered_more names t u id before

-- no index yet
pub noted_none : {S : Type 0} (m : Metadata) (names : List (List ℕ)) (noted : IndexMap ℕ NameId S) → noted.entries ≡ [] → AreNoted m names noted
noted_none m names noted empty = record { each = λ index. rw empty tt }

-- one more index
pub noted_more : {S : Type 0} (m : Metadata) (names new : List (List ℕ)) (index : ℕ) (t : List ℕ) (id : NameId) (noted more : IndexMap ℕ NameId S) → AreNoted m names noted
    → t ≡ text_by m index → new ≡ with_one bytes_eq names t → id ≡ id_in names t
    → ((q : ℕ) → get eqb more q ≡ cond (eqb index q) (Some id) (get eqb noted q)) → AreNoted m new more
noted_more m names new index t id noted more before text_is e is updates =
    let same : (q : ℕ) → AreNotedAt m names noted q → IfSome (get eqb more q) (λ id. IsNumbered (with_one bytes_eq names t) (text_by m q) id) =
    λ q old. rw (updates q) (chosen (eqb index q) (λ id. IsNumbered (with_one bytes_eq names t) (text_by m q) id) id (get eqb noted q)
    (λ tie. subst (λ (text : List ℕ). IsNumbered (with_one bytes_eq names t) text id) (text_is ∙ ap (text_by m) (eqb-true index q tie)) (numbered_one names t id is))
    (λ apart. numbered_on names (text_by m q) t (get eqb noted q) old)) in
    record { each = λ q. subst (λ (ns : List (List ℕ)). IfSome (get eqb more q) (λ id. IsNumbered ns (text_by m q) id)) (sym e) (same q (before.each q)) }
