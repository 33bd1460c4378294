-- What is listed as one list is listed turn by turn.
use Rattle.std.proofs.Common.{◌≡◌, ℕ, zero, suc, true, false, cond, inl, inr, List, [], ◌∷◌, ◌++◌, ◌||◌, length, slice_get, refl, ap, ◌∙◌, sym, subst, true≢false, leb-true, arith}
use Rattle.std.specs.Prelude.{nat_le}
use Rattle.std.specs.List.{Contains, list_all}
use Rattle.std.proofs.lemmas.Bool.{cases_Bool, and_parts}
use Rattle.std.proofs.Math.Bool.{or-true}
use Rattle.std.proofs.lemmas.List.Elements.{Contains-append_right, Contains-append_cases, Contains-push_cases}
use Rattle.type_tree.specs.declared.tree.Ty.{Ty}
use Rattle.type_tree.specs.declared.tree.Key.{Key}
use Rattle.type_tree.specs.declared.tree.Key.TheVariants.{Tree}
use Rattle.type_tree.specs.contracts.tree.Key as row-of-key
use Rattle.type_tree.specs.SameLaws.{same_is, is_same}
use Rattle.type_tree.specs.World.{Facts}
use Rattle.key_closure.specs.Closures.{Adds, AddsAll, needs_of, Listed}
use Rattle.key_closure.specs.Bounds.{fits, is_within, IsClosure, IsTooLarge}
use Rattle.type_relations.specs.Relations.{supers_of}
use Rattle.type_subs.specs.Listing.{same_key, has, added, all_added, listed}
use Rattle.type_subs.specs.Supers.{reached, with_supers}

none_in : (k : Key) → Contains [] k → ⊥
none_in k h = let low = h.1 in omega arith

has_contains : (keys : List Key) (k : Key) → has keys k ≡ true → Contains keys k
has_contains [] k h = absurd (cc)
has_contains (z ∷ zs) k h = elim (cases_Bool (same_key k z)) [
  | inl e ↦ subst (λ (v : Key). Contains (z ∷ zs) v) (sym (same_is row-of-key.the_row.coded k z e)) (first z zs)
  | inr e ↦ Contains-append_right (z ∷ []) zs k (has_contains zs k (sym (ap (λ b. b || has zs k) e) ∙ h))
]
  where
    first : (x : Key) (xs : List Key) → Contains (x ∷ xs) x
    first x xs = (zero, omega arith, refl)

contains_has : (keys : List Key) (k : Key) → Contains keys k → has keys k ≡ true
contains_has [] k c = absurd (none_in k c)
contains_has (z ∷ zs) k c = elim (Contains-append_cases (z ∷ []) zs k c) [
  | inl here ↦ ap (λ b. b || has zs k) (is_same row-of-key.the_row.coded k z (sym (only here)))
  | inr later ↦ ap (λ b. same_key k z || b) (contains_has zs k later) ∙ or-true (same_key k z)
]
  where
    only : Contains (z ∷ []) k → z ≡ k
    only d = elim (Contains-push_cases [] z k d) [ inl none ↦ absurd (none_in k none) | inr e ↦ e ]

added_adds : (keys : List Key) (k : Key) → Adds keys k (added keys k)
added_adds keys k = elim (cases_Bool (has keys k)) [
  | inl e ↦ inl (has_contains keys k e, ap (λ b. cond b keys (keys ++ k ∷ [])) e)
  | inr e ↦ inr (λ c. true≢false (sym (contains_has keys k c) ∙ e), ap (λ b. cond b keys (keys ++ k ∷ [])) e)
]

all_added_adds : (keys more : List Key) → AddsAll keys more (all_added keys more)
all_added_adds keys [] = refl
all_added_adds keys (k ∷ more) = (added keys k, added_adds keys k, all_added_adds (added keys k) more)

listed_is : (needs : Key → List Key) (k : Key) (n : ℕ) → Listed needs k n (listed needs k n)
unfolding listed
listed_is needs k zero = refl
listed_is needs k (suc n) = (listed needs k n, listed_is needs k n, all_added_adds (listed needs k n) (needs_of needs (slice_get (listed needs k n) n)))

module _ (w : Facts) (t : Ty) where
  reached_is : Listed (supers_of w) (Tree t) 4096 (reached w t)
  unfolding reached
  reached_is = listed_is (supers_of w) (Tree t) 4096

  within : is_within (reached w t) ≡ true → IsClosure (supers_of w) (Tree t) (reached w t)
  within e = record {
    whole = record { turns = 4096; listed = reached_is; taken = leb-true (length (reached w t)) 4096 (and_parts (nat_le (length (reached w t)) 4096) (list_all fits (reached w t)) e).0 };
    within = e;
  }

  past : is_within (reached w t) ≡ false → IsTooLarge (supers_of w) (Tree t)
  past e = (4096, reached w t, reached_is, e)

  module _ (once : (needs : Key → List Key) (key : Key) (members others : List Key) → IsClosure needs key members → IsClosure needs key others → members ≡ others)
      (either : (needs : Key → List Key) (key : Key) (members : List Key) → IsClosure needs key members → IsTooLarge needs key → ⊥) where
    pub closed_supers : (members : List Key) → IsClosure (supers_of w) (Tree t) members → with_supers w t ≡ members
    closed_supers members h = elim (cases_Bool (is_within (reached w t))) [
      | inl e ↦ ap (λ b. cond b (reached w t) (Tree t ∷ [])) e ∙ once (supers_of w) (Tree t) (reached w t) members (within e) h
      | inr e ↦ absurd (either (supers_of w) (Tree t) members h (past e))
    ]

    pub alone_supers : IsTooLarge (supers_of w) (Tree t) → with_supers w t ≡ Tree t ∷ []
    alone_supers h = elim (cases_Bool (is_within (reached w t))) [
      | inl e ↦ absurd (either (supers_of w) (Tree t) (reached w t) (within e) h)
      | inr e ↦ ap (λ b. cond b (reached w t) (Tree t ∷ [])) e
    ]
