-- The first place of a name, from one place to the next.
use Rattle.std.proofs.Common.{◌≡◌, ℕ, ◌+◌, ◌<◌, Bool, true, false, cond, List, [], ◌∷◌, ◌++◌, get_or, Option, Some, None, length, Bor, eqb, refl, sym, ap, ◌∙◌}
use Rattle.std.specs.Prelude.{is_some, not, ◌&&◌}
use Rattle.std.specs.List.{find, range_with_len}
use Rattle.std.specs.Option.{option_copied}
use Rattle.std.proofs.lemmas.Bool.{and_parts, eqb-true, eq-eqb}
use Rattle.indexmap.specs.IndexMap.{IndexMap}
use Rattle.std.proofs.lemmas.List.{get_or_default}
use Rattle.type_names.specs.declared.type_keys.TypeKey.{TypeKey}
use Rattle.type_names.specs.TypeKeys.{same_key, key_at, first_of, place_in, place_with}
use Rattle.clr_base.proofs.ListFacts.{both}
use Rattle.clr_base.proofs.Ranges.{next}

-- ---- names are the same where they are equal

unfoldable key_of : ℕ → ℕ → ℕ → TypeKey
key_of around namespace name = record { around = around; namespace = namespace; name = name }

pub key_is : (a b : TypeKey) → same_key a b ≡ true → a ≡ b
unfolding key_of
key_is a b e =
    let parts = and_parts (eqb a.around b.around) (eqb a.namespace b.namespace && eqb a.name b.name) e in
    let names = and_parts (eqb a.namespace b.namespace) (eqb a.name b.name) parts.1 in
    ap (λ x. key_of x a.namespace a.name) (eqb-true a.around b.around parts.0)
    ∙ ap (λ x. key_of b.around x a.name) (eqb-true a.namespace b.namespace names.0)
    ∙ ap (key_of b.around b.namespace) (eqb-true a.name b.name names.1)

pub key_same : (a b : TypeKey) → a ≡ b → same_key a b ≡ true
key_same a b e =
    let around = eq-eqb a.around b.around (ap (λ (k : TypeKey). k.around) e) in
    let namespace = eq-eqb a.namespace b.namespace (ap (λ (k : TypeKey). k.namespace) e) in
    let name = eq-eqb a.name b.name (ap (λ (k : TypeKey). k.name) e) in
    both (eqb a.around b.around) (eqb a.namespace b.namespace && eqb a.name b.name) around (both (eqb a.namespace b.namespace) (eqb a.name b.name) namespace name)

-- ---- one more item

found_front : (b : Bool) (x y : ℕ) (rest last : Option ℕ) (p : Bool) → last ≡ cond (is_some rest) rest (cond p (Some x) None)
    → cond b (Some y) last ≡ cond (is_some (cond b (Some y) rest)) (cond b (Some y) rest) (cond p (Some x) None)
found_front true x y rest last p e = refl
found_front false x y rest last p e = e

find_last : (p : ℕ → Bool) (xs : List ℕ) (x : ℕ) → find p (xs ++ x ∷ []) ≡ cond (is_some (find p xs)) (find p xs) (cond (p x) (Some x) None)
find_last p [] x = refl
find_last p (y ∷ ys) x = found_front (p y) x y (find p ys) (find p (ys ++ x ∷ [])) (p x) (find_last p ys x)

find_more : (p : ℕ → Bool) (n : ℕ) → find p (range_with_len 0 (n + 1)) ≡ cond (is_some (find p (range_with_len 0 n))) (find p (range_with_len 0 n)) (cond (p n) (Some n) None)
find_more p n = ap (find p) (next n) ∙ find_last p (range_with_len 0 n) n

kept_some : (o last : Option ℕ) → is_some o ≡ true → cond (is_some o) o last ≡ o
kept_some o last e = ap (λ (b : Bool). cond b o last) e

kept_either : (o : Option ℕ) → cond (is_some o) o None ≡ o
kept_either None = refl
kept_either (Some x) = refl

none_last : (o last : Option ℕ) → is_some o ≡ false → cond (is_some o) o last ≡ last
none_last o last e = ap (λ (b : Bool). cond b o last) e

module _ (keys : List TypeKey) (key : TypeKey) (n : ℕ) (at : key_at keys n ≡ key) where
  more_at : (q : TypeKey) → first_of keys q (n + 1) ≡ cond (is_some (first_of keys q n)) (first_of keys q n) (cond (same_key q key) (Some n) None)
  more_at q =
      find_more (λ i. same_key q (key_at keys i)) n
      ∙ ap (λ (k : TypeKey). cond (is_some (first_of keys q n)) (first_of keys q n) (cond (same_key q k) (Some n) None)) at

  present : (q : TypeKey) (b : Bool) → same_key q key ≡ b → is_some (first_of keys key n) ≡ true
      → cond (is_some (first_of keys q n)) (first_of keys q n) (cond b (Some n) None) ≡ first_of keys q n
  present q true e there =
      kept_some (first_of keys q n) (Some n) (ap (λ (k : TypeKey). is_some (first_of keys k n)) (key_is q key e) ∙ there)
  present q false e there = kept_either (first_of keys q n)

  -- a name that stands before stays where it is, and so do the others
  pub present_kept : (q : TypeKey) → is_some (first_of keys key n) ≡ true → first_of keys q (n + 1) ≡ first_of keys q n
  present_kept q there =
      more_at q ∙ present q (same_key q key) refl there

  absent : (q : TypeKey) (b c : Bool) → same_key q key ≡ b → same_key key q ≡ c → is_some (first_of keys key n) ≡ false
      → cond (is_some (first_of keys q n)) (first_of keys q n) (cond b (Some n) None) ≡ cond c (Some n) (first_of keys q n)
  absent q true true e f there =
      none_last (first_of keys q n) (Some n) (ap (λ (k : TypeKey). is_some (first_of keys k n)) (key_is q key e) ∙ there)
  absent q true false e f there = let g = key_same key q (sym (key_is q key e)) in absurd cc
  absent q false true e f there = let g = key_same q key (sym (key_is key q f)) in absurd cc
  absent q false false e f there = kept_either (first_of keys q n)

  -- one that doesn't is found here
  pub absent_added : (q : TypeKey) → is_some (first_of keys key n) ≡ false → first_of keys q (n + 1) ≡ cond (same_key key q) (Some n) (first_of keys q n)
  absent_added q there = more_at q ∙ absent q (same_key q key) (same_key key q) refl refl there

  noted : (q : TypeKey) (b : Bool) (before after : Option ℕ) → is_some (first_of keys key n) ≡ b → before ≡ first_of keys q n
      → after ≡ cond b before (cond (same_key key q) (Some n) before) → after ≡ first_of keys q (n + 1)
  noted q true before after e is said = said ∙ is ∙ sym (present_kept q e)
  noted q false before after e is said = said ∙ ap (cond (same_key key q) (Some n)) is ∙ sym (absent_added q e)

  -- so what is noted of each name stays its first place
  pub first_noted : (q : TypeKey) (here before after : Option ℕ) → here ≡ first_of keys key n → before ≡ first_of keys q n
      → after ≡ cond (is_some here) before (cond (same_key key q) (Some n) before) → after ≡ first_of keys q (n + 1)
  first_noted q here before after there is said =
      noted q (is_some here) before after (ap is_some (sym there)) is said

-- ---- one name noted

copied_some : (r : Option (Bor ℕ)) → is_some (option_copied r) ≡ is_some r
copied_some None = refl
copied_some (Some x) = refl

not_true : (a b : Bool) → a ≡ not b → b ≡ true → a ≡ false
not_true a b e holds = e ∙ ap not holds

pub noted_new : {S : Type 0} (old new : IndexMap TypeKey ℕ S) (key : TypeKey) (place : ℕ) (read : Option (Bor ℕ)) (none : Bool)
    → option_copied read ≡ place_in old key → is_some read ≡ not none → none ≡ true
    → (k : TypeKey) → place_in new k ≡ cond (same_key key k) (Some place) (place_in old k) → place_in new k ≡ place_with old key place k
noted_new old new key place read none is some passes k after =
    let absent : is_some (place_in old key) ≡ false = ap is_some (sym is) ∙ copied_some read ∙ not_true (is_some read) none some passes in
    after ∙ sym (ap (λ (b : Bool). cond b (place_in old k) (cond (same_key key k) (Some place) (place_in old k))) absent)

pub first_step : {S : Type 0} (old new : IndexMap TypeKey ℕ S) (keys : List TypeKey) (n : ℕ) (d : TypeKey) → n < length keys
    → ((k : TypeKey) → place_in old k ≡ first_of keys k n) → ((k : TypeKey) → place_in new k ≡ place_with old (get_or keys n d) n k)
    → (k : TypeKey) → place_in new k ≡ first_of keys k (n + 1)
first_step old new keys n d within before after k =
    let key = get_or keys n d in
    first_noted keys key n (get_or_default keys n _ d within) k (place_in old key) (place_in old k) (place_in new k) (before key) (before k) (after k)
