-- Numbers are given alike by names and signatures and by their numbers.
use Rattle.std.proofs.Common.{◌≡◌, ℕ, suc, Bool, true≢false, cond, inl, inr, List, [], ◌∷◌, ◌++◌, ◌&&◌, map, filter, true, false, subst, Option, None, Some, length, slice_get, nat_eq, refl, ap, ap₂, ◌∙◌, sym, eqb-true}
use Rattle.std.proofs.lemmas.Bool.{cases_Bool}
use Rattle.std.specs.Option.{is_none}
use Rattle.type_tree.specs.declared.definition.Method.{Method}
use Rattle.type_tree.specs.declared.tree.Ty.{Ty}
use Rattle.type_pool.specs.Trees.{EachOnce}
use Rattle.method_slots.specs.declared.numbers.Virtual.{Virtual}
use Rattle.method_slots.specs.declared.opens.OpenMethod.{OpenMethod}
use Rattle.method_slots.specs.Numbers.{last_place, numbers_from, opens}
use Rattle.method_slots.specs.Opens.{Open, open_of, open_at}
use Rattle.method_slots.specs.OpenSets.{OpensOnce}
use Rattle.method_slots.specs.Slots.{matches, takes_slot, has_newslot, overridden, own_opened}
use Rattle.method_slots.specs.Keyed.{IsNamed, AreNamed, IsVirtual, AreOwn, AreSlots}
use Rattle.method_slots.specs.Virtuals.{numbers, opened, key_of, is_virtual, is_new}
use Rattle.method_slots.proofs.Matches.{eq-refl, match_is, is_match}
use Rattle.method_slots.proofs.OpenLemmas.{one_open}
use Rattle.method_slots.proofs.Steps.{from_free, home}

module _ (ts : List Ty) (once : EachOnce ts) (os : List OpenMethod) (opens_once : OpensOnce os) where
  one_number : (k l : ℕ) (o p : Open) → IsNamed ts os k o → IsNamed ts os l p → o ≡ p → k ≡ l
  one_number k l o p a b e =
      let same : a.node ≡ b.node = one_open ts once a.node b.node a.spells.within b.spells.within (a.spells.are ∙ e ∙ sym b.spells.are) in
      opens_once k l b.node (a.here ∙ ap Some same) b.here

  one_name : (k l : ℕ) (o p : Open) → IsNamed ts os k o → IsNamed ts os l p → k ≡ l → o ≡ p
  one_name k l o p a b e =
      let some : Some a.node ≡ Some b.node = sym a.here ∙ ap (slice_get os) e ∙ b.here in
      let same : a.node ≡ b.node = cc in
      sym a.spells.are ∙ ap (open_at ts) same ∙ b.spells.are

  pub same_test : (k l : ℕ) (o p : Open) → IsNamed ts os k o → IsNamed ts os l p → nat_eq k l ≡ matches o p
  same_test k l o p a b = elim (cases_Bool (nat_eq k l)) [
    | inl e ↦ e ∙ sym (is_match o p (one_name k l o p a b (eqb-true k l e)))
    | inr e ↦ elim (cases_Bool (matches o p)) [
      | inl f ↦ let is = one_number k l o p a b (match_is o p f) in absurd (true≢false (sym (eq-refl k) ∙ ap (nat_eq k) is ∙ e))
      | inr f ↦ e ∙ sym f
    ]
  ]

  abbrev next : Option ℕ → Bool → Option ℕ
  next found holds = elim found [ Some n ↦ Some (suc n) | None ↦ cond holds (Some 0) None ]

  last_named : (k : ℕ) (o : Open) → IsNamed ts os k o → (ks : List ℕ) (slots : List Open) → AreNamed ts os ks slots
      → last_place (nat_eq k) ks ≡ last_place (matches o) slots
  last_named k o a [] [] h = refl
  last_named k o a [] (s ∷ slots) h = absurd h
  last_named k o a (l ∷ ks) [] h = absurd h
  last_named k o a (l ∷ ks) (s ∷ slots) h = ap₂ next (last_named k o a ks slots h.1) (same_test k l o s a h.0)

  pub as_long : (ks : List ℕ) (slots : List Open) → AreNamed ts os ks slots → length ks ≡ length slots
  as_long [] [] h = refl
  as_long [] (s ∷ slots) h = absurd h
  as_long (l ∷ ks) [] h = absurd h
  as_long (l ∷ ks) (s ∷ slots) h = ap suc (as_long ks slots h.1)

  module _ (ks : List ℕ) (slots : List Open) (named : AreNamed ts os ks slots) where
    home-named : (v : Virtual) (m : Method) → IsVirtual ts os v m → home ks v ≡ overridden slots m
    home-named v m a = ap₂ (λ b f. cond b None f) a.newslot (last_named v.key (open_of m) a.named ks slots named)

    abbrev by_names : ℕ → List Method → List (Option ℕ)
    by_names free ms = numbers_from matches open_of takes_slot has_newslot slots free ms

    abbrev step : ℕ → List Method → Bool → Option ℕ → List (Option ℕ)
    step free ms takes found = cond takes (elim found [ Some n ↦ Some n ∷ by_names free ms | None ↦ Some free ∷ by_names (suc free) ms ]) (None ∷ by_names free ms)

    abbrev by_keys : ℕ → List (Option Virtual) → Option ℕ → List (Option ℕ)
    by_keys free vs found = elim found [ Some n ↦ Some n ∷ from_free ks free vs | None ↦ Some free ∷ from_free ks (suc free) vs ]

    numbers-named : (vs : List (Option Virtual)) (ms : List Method) → AreOwn ts os vs ms → (free : ℕ) → from_free ks free vs ≡ by_names free ms
    numbers-named [] [] h free = refl
    numbers-named [] (m ∷ ms) h free = absurd h
    numbers-named (v ∷ vs) [] h free = absurd h
    numbers-named (None ∷ vs) (m ∷ ms) h free = ap (λ l. None ∷ l) (numbers-named vs ms h.1 free) ∙ sym (ap (λ b. step free ms b (overridden slots m)) h.0)
    numbers-named (Some v ∷ vs) (m ∷ ms) h free =
        let found = overridden slots m in
        let there : from_free ks free (Some v ∷ vs) ≡ by_keys free vs found = ap (by_keys free vs) (home-named v m h.0) in
        let same : by_keys free vs found ≡ step free ms true found = elim found as (λ f. by_keys free vs f ≡ step free ms true f) [
          | Some n ↦ ap (λ l. Some n ∷ l) (numbers-named vs ms h.1 free)
          | None ↦ ap (λ l. Some free ∷ l) (numbers-named vs ms h.1 (suc free))
        ] in
        there ∙ same ∙ sym (ap (λ b. step free ms b found) h.0.takes)

    abbrev opens_key : Option Virtual → Bool
    opens_key = opens nat_eq key_of is_virtual is_new ks

    abbrev opens_name : Method → Bool
    opens_name = opens matches open_of takes_slot has_newslot slots

    one-opened : (b : Bool) (v : Virtual) (m : Method) (vs : List (Option Virtual)) (ms : List Method) → IsNamed ts os v.key (open_of m)
        → AreNamed ts os (map key_of vs) (map open_of ms) → AreNamed ts os (map key_of (cond b (Some v ∷ vs) vs)) (map open_of (cond b (m ∷ ms) ms))
    one-opened true v m vs ms a h = (a, h)
    one-opened false v m vs ms a h = h

    all-opened : (vs : List (Option Virtual)) (ms : List Method) → AreOwn ts os vs ms → AreNamed ts os (map key_of (filter opens_key vs)) (map open_of (filter opens_name ms))
    all-opened [] [] h = tt
    all-opened [] (m ∷ ms) h = absurd h
    all-opened (v ∷ vs) [] h = absurd h
    all-opened (None ∷ vs) (m ∷ ms) h =
        let rest = filter opens_name ms in
        let none : opens_name m ≡ false = ap (λ b. b && is_none (overridden slots m)) h.0 in
        subst (λ b. AreNamed ts os (map key_of (filter opens_key vs)) (map open_of (cond b (m ∷ rest) rest))) (sym none) (all-opened vs ms h.1)
    all-opened (Some v ∷ vs) (m ∷ ms) h =
        let rest = filter opens_name ms in
        let fresh = filter opens_key vs in
        let one : opens_name m ≡ is_none (overridden slots m) = ap (λ b. b && is_none (overridden slots m)) h.0.takes in
        let same : opens_key (Some v) ≡ opens_name m = ap is_none (home-named v m h.0) ∙ sym one in
        subst (λ b. AreNamed ts os (map key_of (cond (opens_key (Some v)) (Some v ∷ fresh) fresh)) (map open_of (cond b (m ∷ rest) rest))) same
        (one-opened (opens_key (Some v)) v m fresh rest h.0.named (all-opened vs ms h.1))

    both : (ls : List ℕ) (ss : List Open) (ks' : List ℕ) (slots' : List Open) → AreNamed ts os ls ss → AreNamed ts os ks' slots' → AreNamed ts os (ls ++ ks') (ss ++ slots')
    both [] [] ks' slots' a b = b
    both [] (s ∷ ss) ks' slots' a b = absurd a
    both (l ∷ ls) [] ks' slots' a b = absurd a
    both (l ∷ ls) (s ∷ ss) ks' slots' a b = (a.0, both ls ss ks' slots' a.1 b)

    pub own-slots : (vs : List (Option Virtual)) (ms : List Method) (new : List ℕ) (given : List (Option ℕ)) → AreOwn ts os vs ms → given ≡ numbers ks vs → new ≡ opened ks vs
        → AreSlots ts os slots ms new given
    own-slots vs ms new given h is are = record {
      numbers = is ∙ numbers-named vs ms h (length ks) ∙ ap (λ n. by_names n ms) (as_long ks slots named);
      opened = subst (λ l. AreNamed ts os l (own_opened slots ms)) (sym are) (both ks slots (map key_of (filter opens_key vs)) (map open_of (filter opens_name ms)) named (all-opened vs ms h));
    }
