-- What a closure lists, where all of it is among the keys of a list.
use Rattle.std.proofs.Common.{◌≡◌, ℕ, zero, suc, ◌≤◌, Bool, true, true≢false, nat_le, inl, inr, List, [], ◌∷◌, ◌++◌, length, Option, None, Some, slice_get, refl, ◌∙◌, sym, subst, arith, leb-true}
use Rattle.std.specs.Cmp.{IsEquivalence, equiv}
use Rattle.std.specs.List.{list_any, list_all, Contains, IsDistinct}
use Rattle.std.proofs.lemmas.Bool.{cases_Bool, and_parts, and_from, le-leb, false_from_ne_true}
use Rattle.std.proofs.lemmas.List.Elements.{Contains-push_cases, Contains-get_or}
use Rattle.std.proofs.lemmas.Map.Keys.{IsDistinct-push}
use Rattle.std.proofs.lemmas.Map.Made.{length-le_from_is_member}
use Rattle.std.proofs.lemmas.Option.{slice_get_within, get_or_from_slice_get}
use Rattle.type_tree.specs.declared.tree.Key.{Key}
use Rattle.type_tree.specs.contracts.tree.Key as row-of-key
use Rattle.type_tree.specs.Same.{same}
use Rattle.type_tree.specs.SameLaws.{is_same, same_laws}
use Rattle.key_closure.specs.Bounds.{fits, is_within, IsClosure}
use Rattle.key_closure.specs.Closures.{Adds, AddsAll, needs_of, Listed}
use Rattle.good_types.proofs.Elements.{first_in, later_in, none_in, in_cases, all_in, all_from, same_in, in_same}

abbrev same_key : Key → Key → Bool
same_key = same row-of-key.the_row.coded

same_equiv : IsEquivalence same_key
same_equiv = equiv (same_laws row-of-key.the_row.coded) (λ k. is_same row-of-key.the_row.coded k k refl)

-- ---- one key more

adds : (before : List Key) (k : Key) → (after : List Key) × Adds before k after
adds before k = elim (cases_Bool (list_any (same_key k) before)) [
  | inl e ↦ (before, inl (same_in row-of-key.the_row.coded k before e, refl))
  | inr e ↦ (before ++ k ∷ [], inr (λ c. true≢false (sym (in_same row-of-key.the_row.coded k before c) ∙ e), refl))
]

adds_all : (before more : List Key) → (after : List Key) × AddsAll before more after
adds_all before [] = (before, refl)
adds_all before (k ∷ more) = let one = adds before k in let rest = adds_all one.0 more in (rest.0, (one.0, one.1, rest.1))

adds_distinct : (before : List Key) (k : Key) (after : List Key) → Adds before k after → IsDistinct same_key before → IsDistinct same_key after
adds_distinct before k after a d = elim a [
  | inl old ↦ subst (IsDistinct same_key) (sym old.1) d
  | inr new ↦ subst (IsDistinct same_key) (sym new.1) (IsDistinct-push same_equiv before k d (false_from_ne_true (list_any (same_key k) before) (λ e. new.0 (same_in row-of-key.the_row.coded k before e))))
]

all_distinct : (before more after : List Key) → AddsAll before more after → IsDistinct same_key before → IsDistinct same_key after
all_distinct before [] after a d = subst (IsDistinct same_key) (sym a) d
all_distinct before (k ∷ more) after a d = all_distinct a.0 more after a.2 (adds_distinct before k a.0 a.1 d)

module _ (Q : Key → Type 0) where
  abbrev Each : List Key → Type 0
  Each keys = (k : Key) → Contains keys k → Q k

  adds_each : (before : List Key) (k : Key) (after : List Key) → Adds before k after → Each before → Q k → Each after
  adds_each before k after a each q x c = elim a [
    | inl old ↦ each x (subst (λ (l : List Key). Contains l x) old.1 c)
    | inr new ↦ elim (Contains-push_cases before k x (subst (λ (l : List Key). Contains l x) new.1 c)) [ inl there ↦ each x there | inr e ↦ subst Q e q ]
  ]

  all_each : (before more after : List Key) → AddsAll before more after → Each before → Each more → Each after
  all_each before [] after a each rest = subst Each (sym a) each
  all_each before (k ∷ more) after a each rest =
      all_each a.0 more after a.2 (adds_each before k a.0 a.1 each (rest k (first_in k more))) (λ x c. rest x (later_in k more x c))

-- ---- what is listed

module _ (needs : Key → List Key) (root : Key) where
  listed : (n : ℕ) → (keys : List Key) × Listed needs root n keys
  listed zero = (root ∷ [], refl)
  listed (suc n) = let before = listed n in let after = adds_all before.0 (needs_of needs (slice_get before.0 n)) in (after.0, (before.0, before.1, after.1))

  one_distinct : (k : Key) → IsDistinct same_key (k ∷ [])
  unfolding IsDistinct
  one_distinct k = IsDistinct-push same_equiv [] k tt refl

  listed_distinct : (n : ℕ) (keys : List Key) → Listed needs root n keys → IsDistinct same_key keys
  listed_distinct zero keys h = subst (IsDistinct same_key) (sym h) (one_distinct root)
  listed_distinct (suc n) keys h = all_distinct h.0 (needs_of needs (slice_get h.0 n)) keys h.2 (listed_distinct n h.0 h.1)

  module _ (Q : Key → Type 0) (at_root : Q root) (step : (y z : Key) → Q y → Contains (needs y) z → Q z) where
    of_taken : (before : List Key) → Each Q before → (n : ℕ) (o : Option Key) → slice_get before n ≡ o → Each Q (needs_of needs o)
    of_taken before each n None e x c = absurd (none_in x c)
    of_taken before each n (Some y) e x c =
        let there : Contains before y = subst (λ v. Contains before v) (get_or_from_slice_get before n y y e) (Contains-get_or before n y (slice_get_within before n y e)) in
        step y x (each y there) c

    pub listed_each : (n : ℕ) (keys : List Key) → Listed needs root n keys → Each Q keys
    listed_each zero keys h = λ x c. elim (in_cases root [] x (subst (λ (l : List Key). Contains l x) h c)) [ inl e ↦ subst Q e at_root | inr none ↦ absurd (none_in x none) ]
    listed_each (suc n) keys h = let each = listed_each n h.0 h.1 in all_each Q h.0 (needs_of needs (slice_get h.0 n)) keys h.2 each (of_taken h.0 each n (slice_get h.0 n) refl)

  -- ---- within bounds

  -- where all of it is among the keys of a list within the bounds of closures, there is a closure
  pub closure_among : (keys : List Key) → is_within keys ≡ true → Contains keys root → ((y z : Key) → Contains keys y → Contains (needs y) z → Contains keys z)
      → (members : List Key) × IsClosure needs root members
  closure_among keys within at_root step =
      let l = listed 4096 in
      let among = listed_each (λ k. Contains keys k) at_root step 4096 l.0 l.1 in
      let bounds = and_parts (nat_le (length keys) 4096) (list_all fits keys) within in
      let few = leb-true (length keys) 4096 bounds.0 in
      let fewer = length-le_from_is_member same_equiv l.0 keys (listed_distinct 4096 l.0 l.1) (λ q h. in_same row-of-key.the_row.coded q keys (among q (same_in row-of-key.the_row.coded q l.0 h))) in
      let short : length l.0 ≤ 4096 = omega (arith, few, fewer) in (
        l.0,
        record {
          whole = record { turns = 4096; listed = l.1; taken = short };
          within = and_from (nat_le (length l.0) 4096) (list_all fits l.0) (le-leb (length l.0) 4096 short) (all_from fits l.0 (λ k c. all_in fits keys k bounds.1 (among k c)));
        },
      )
