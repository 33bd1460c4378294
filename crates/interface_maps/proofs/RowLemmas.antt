-- MethodImpl rows by the numbers of the interfaces and methods that they name.
use Rattle.std.proofs.Common.{◌≡◌, ℕ, ◌<◌, ◌&&◌, ◌==◌, nat_eq, Bool, true, false, cond, List, [], ◌∷◌, ◌++◌, map, length, Option, None, Some, refl, ap, ap₂, ◌∙◌, sym, subst, append_assoc, arith}
use Rattle.std.proofs.lemmas.Bool.{and_parts, ltb-true}
use Rattle.std.proofs.lemmas.List.{map-append, length-map}
use Rattle.std.specs.HashMap.{get}
use Rattle.std.specs.Option.{option_and_then, option_map_or}
use Rattle.clr_base.specs.declared.ids.MethId.{MethId}
use Rattle.type_tree.specs.declared.definition.Impl.{Impl}
use Rattle.type_tree.specs.declared.tree.Ty.{Ty}
use Rattle.type_tree.specs.World.{Facts}
use Rattle.type_pool.specs.declared.nodes.Id.{Id}
use Rattle.type_pool.specs.Jobs.{SpellAll}
use Rattle.type_pool.specs.Trees.{at, at_all, EachOnce, Grows, Spells}
use Rattle.type_pool.proofs.JobLemmas.{below-one, spell_all-grown}
use Rattle.method_slots.specs.Chains.{flat, last_of, owns}
use Rattle.method_slots.specs.Slots.{same_tree}
use Rattle.interface_lists.proofs.Ids.{tree_test}
use Rattle.interface_maps.specs.Choices.{row_names}
use Rattle.interface_maps.specs.Rows.{RowNumbers, AddsRow, AreRows, FindsRow, GainRows, last_number, names_number, pair, row_number}

abbrev owners : List Impl → List Ty
owners rows = map (λ (i : Impl). i.owner) rows

last-append : (w : Facts) (n t m : ℕ) (ks : List Id) (rows : List Impl) (before : Option (Option ℕ)) (k : Id) (i : Impl) → length ks ≡ length rows
    → last_number w n t m before (ks ++ k ∷ []) (rows ++ i ∷ []) ≡ cond (names_number w n t m k.0 i) (Some (row_number w n i)) (last_number w n t m before ks rows)
last-append w n t m [] [] before k i e = refl
last-append w n t m [] (x ∷ rows) before k i e = absurd (omega (arith, e))
last-append w n t m (x ∷ ks) [] before k i e = absurd (omega (arith, e))
last-append w n t m (x ∷ ks) (y ∷ rows) before k i e = last-append w n t m ks rows (cond (names_number w n t m x.0 y) (Some (row_number w n y)) before) k i (omega (arith, e))

-- one more row
pub rows-one : (w : Facts) (n : ℕ) (ts us : List Ty) → Grows ts us → (old new : RowNumbers) (rows : List Impl) (k : Id) (i : Impl) → Spells us k i.owner → AddsRow w n k.0 i old new
    → AreRows w n ts old rows → AreRows w n us new (rows ++ i ∷ [])
rows-one w n ts us g old new rows k i spells adds are =
    let ids = are.ids in
    let grown = spell_all-grown ts us g ids (owners rows) are.owners in
    let l = ap length are.owners.are in
    let a = length-map ids (at ts) in
    let b = length-map rows (λ (i : Impl). i.owner) in
    let long : length ids ≡ length rows = omega (arith, l, a, b) in
    record {
      ids = ids ++ k ∷ [];
      owners = record {
        within = below-one (length us) ids k grown.within spells.within;
        are = map-append (at us) ids (k ∷ []) ∙ ap₂ (λ ts t. ts ++ t ∷ []) grown.are spells.is ∙ sym (map-append (λ (i : Impl). i.owner) rows (i ∷ []));
      };
      lasts = λ t m low. adds t m low ∙ ap (cond (names_number w n t m k.0 i) (Some (row_number w n i))) (are.lasts t m low) ∙ sym (last-append w n t m ids rows None k i long);
    }

pub rows-more : (w : Facts) (n : ℕ) (ts us vs : List Ty) (a b c : RowNumbers) (done more all : List Impl) → GainRows w n ts a us b done → GainRows w n us b vs c more → all ≡ done ++ more → GainRows w n ts a vs c all
rows-more w n ts us vs a b c done more all f g e rows are =
    subst (AreRows w n vs c) (append_assoc rows done more ∙ ap (λ l. rows ++ l) (sym e)) (g (rows ++ done) (f rows are))

-- what is known after a row, or where there is none
abbrev after : Facts → ℕ → Option Impl → Option (Option ℕ) → Option (Option ℕ)
after w n None before = before
after w n (Some i) before = Some (row_number w n i)

step : (w : Facts) (n : ℕ) (o : Option Impl) (b : Bool) (i : Impl) (before : Option (Option ℕ))
    → after w n o (cond b (Some (row_number w n i)) before) ≡ after w n (elim o [ Some y ↦ Some y | None ↦ cond b (Some i) None ]) before
step w n (Some y) b i before = refl
step w n None true i before = refl
step w n None false i before = refl

module _ (w : Facts) (n : ℕ) (ts : List Ty) (once : EachOnce ts) (t : Id) (low : t.0 < length ts) (m : ℕ) where
  last-found : (ks : List Id) (rows : List Impl) (before : Option (Option ℕ)) → SpellAll ts ks (owners rows)
      → last_number w n t.0 m before ks rows ≡ after w n (last_of (row_names w n (at ts t) m) rows) before
  last-found [] [] before s = refl
  last-found [] (i ∷ rows) before s = let l = ap length s.are in absurd (omega (arith, l))
  last-found (k ∷ ks) [] before s = let l = ap length s.are in absurd (omega (arith, l))
  last-found (k ∷ ks) (i ∷ rows) before s =
      let parts = and_parts _ _ s.within in
      let inside = ltb-true k.0 (length ts) parts.0 in
      let e : at ts k ∷ at_all ts ks ≡ i.owner ∷ owners rows = s.are in
      let first : at ts k ≡ i.owner = cc in
      let rest : at_all ts ks ≡ owners rows = cc in
      let test : nat_eq k.0 t.0 ≡ same_tree i.owner (at ts t) = tree_test ts once k t inside low ∙ ap (λ u. same_tree u (at ts t)) first in
      let same : names_number w n t.0 m k.0 i ≡ row_names w n (at ts t) m i = ap (λ b. owns w n i.body && (b && option_map_or (λ (id : MethId). id.0 == m) i.declaration false)) test in
      last-found ks rows _ (record { within = parts.1; are = rest })
      ∙ ap (λ b. after w n (last_of (row_names w n (at ts t) m) rows) (cond b (Some (row_number w n i)) before)) same
      ∙ step w n (last_of (row_names w n (at ts t) m) rows) (row_names w n (at ts t) m i) i before

flat-after : (w : Facts) (n : ℕ) (o : Option Impl) → flat (after w n o None) ≡ option_and_then (row_number w n) o
flat-after w n None = refl
flat-after w n (Some i) = refl

pub finds-row : (ts : List Ty) → EachOnce ts → (numbers : RowNumbers) (t : Id) (m : ℕ) (found : Option ℕ) → t.0 < length ts → m < 4294967296 → found ≡ flat (get nat_eq numbers (pair t.0 m)) → FindsRow ts numbers t m found
finds-row ts once numbers t m found low few is w n rows are =
    is ∙ ap flat (are.lasts t.0 m few ∙ last-found w n ts once t low m are.ids rows None are.owners) ∙ flat-after w n (last_of (row_names w n (at ts t) m) rows)
