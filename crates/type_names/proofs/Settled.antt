-- A text that is among names keeps its number whatever comes behind them.
use Rattle.std.proofs.Common.{◌≡◌, ℕ, ◌+◌, ◌≤◌, Bool, true, false, ◌||◌, List, [], ◌∷◌, ◌++◌, map, length, refl, sym, ap, ap₂, ◌∙◌, cond, eqb, if◌then◌else◌, arith, length-append, eqb-true}
use Rattle.std.specs.Prelude.{not}
use Rattle.std.specs.List.{list_any}
use Rattle.std.specs.Str.{bytes_eq}
use Rattle.std.proofs.lemmas.List.{map-append}
use Rattle.std.proofs.lemmas.List.Folds.{list_any-append, position_or_len_push}
use Rattle.std.proofs.lemmas.Slice.Eq.{bytes_eq-Decides}
use Rattle.clr_base.specs.declared.ids.NameId.{NameId}
use Rattle.core_types.specs.Names.{with_one, with_all, number_in, id_in}
use Rattle.type_names.specs.Numbering.{IsSettled, IsNumbered}

-- ---- one more text

same : (t : List ℕ) → bytes_eq t t ≡ true
same t = (bytes_eq-Decides t t).1 refl

or_true : (b : Bool) → (b || true) ≡ true
or_true true = refl
or_true false = refl

kept_left : (a b : Bool) → a ≡ true → (a || b) ≡ true
kept_left true b e = refl
kept_left false b e = absurd cc

module _ (t : List ℕ) where
  chosen_among : (b : Bool) (names : List (List ℕ)) → list_any (bytes_eq t) names ≡ b → list_any (bytes_eq t) (if b then names else names ++ t ∷ []) ≡ true
  chosen_among true names e = e
  chosen_among false names e =
      list_any-append (bytes_eq t) names (t ∷ []) ∙ ap (λ (b : Bool). list_any (bytes_eq t) names || (b || false)) (same t)
      ∙ or_true (list_any (bytes_eq t) names)

  -- it is among them then
  pub among_one : (names : List (List ℕ)) → list_any (bytes_eq t) (with_one bytes_eq names t) ≡ true
  among_one names = chosen_among (list_any (bytes_eq t) names) names refl

  chosen_more : (b : Bool) (names : List (List ℕ)) (u : List ℕ) → list_any (bytes_eq t) names ≡ true
      → list_any (bytes_eq t) (if b then names else names ++ u ∷ []) ≡ true
  chosen_more true names u among = among
  chosen_more false names u among = list_any-append (bytes_eq t) names (u ∷ []) ∙ kept_left _ _ among

  -- what is among them stays so, with its number
  pub among_more : (names : List (List ℕ)) (u : List ℕ) → list_any (bytes_eq t) names ≡ true → list_any (bytes_eq t) (with_one bytes_eq names u) ≡ true
  among_more names u among = chosen_more (list_any (bytes_eq u) names) names u among

  number_front : (b : Bool) (n : List ℕ) (names : List (List ℕ)) (i j : ℕ) → (list_any (bytes_eq t) names ≡ true → i ≡ j)
      → (b || list_any (bytes_eq t) names) ≡ true → cond (not b) (1 + i) 0 ≡ cond (not b) (1 + j) 0
  number_front true n names i j more among = refl
  number_front false n names i j more among = ap (λ (k : ℕ). 1 + k) (more among)

  number_append : (names more : List (List ℕ)) → list_any (bytes_eq t) names ≡ true → number_in (names ++ more) t ≡ number_in names t
  number_append [] more among = absurd cc
  number_append (n ∷ names) more among =
      number_front (bytes_eq t n) n names (number_in (names ++ more) t) (number_in names t) (number_append names more) among

  number_chosen : (b : Bool) (names : List (List ℕ)) (u : List ℕ) → list_any (bytes_eq t) names ≡ true
      → number_in (if b then names else names ++ u ∷ []) t ≡ number_in names t
  number_chosen true names u among = refl
  number_chosen false names u among = number_append names (u ∷ []) among

  pub number_more : (names : List (List ℕ)) (u : List ℕ) → list_any (bytes_eq t) names ≡ true → number_in (with_one bytes_eq names u) t ≡ number_in names t
  number_more names u among = number_chosen (list_any (bytes_eq u) names) names u among

  -- and a new one has the number that it would have had
  either : (b : Bool) (i n : ℕ) → eqb i n ≡ b → cond b (n + 0) i ≡ i
  either true i n e = let is : i ≡ n = eqb-true i n e in omega arith
  either false i n e = refl

  number_last : (names : List (List ℕ)) → number_in (names ++ t ∷ []) t ≡ number_in names t
  number_last names =
      position_or_len_push (bytes_eq t) names t
      ∙ ap (λ (b : Bool). cond (eqb (number_in names t) (length names)) (length names + cond b 0 1) (number_in names t)) (same t)
      ∙ either (eqb (number_in names t) (length names)) (number_in names t) (length names) refl

  number_own : (b : Bool) (names : List (List ℕ)) → number_in (if b then names else names ++ t ∷ []) t ≡ number_in names t
  number_own true names = refl
  number_own false names = number_last names

  pub number_one : (names : List (List ℕ)) → number_in (with_one bytes_eq names t) t ≡ number_in names t
  number_one names = number_own (list_any (bytes_eq t) names) names

  -- ---- and many more

  number_all : (names more : List (List ℕ)) → list_any (bytes_eq t) names ≡ true → number_in (with_all bytes_eq names more) t ≡ number_in names t
  number_all names [] among = refl
  number_all names (u ∷ more) among =
      number_all (with_one bytes_eq names u) more (among_more names u among) ∙ number_more names u among

abbrev named : ℕ → NameId
named n = record { 0 = n }

-- the number that a text gets stays
pub settled_one : (names : List (List ℕ)) (t : List ℕ) (id : NameId) → id ≡ id_in names t → IsSettled (with_one bytes_eq names t) (λ ns. id_in ns t) id
settled_one names t id is = record {
  is = λ more. is ∙ ap named (sym (number_one t names)) ∙ ap named (sym (number_all t (with_one bytes_eq names t) more (among_one t names)));
}

pub numbered_one : (names : List (List ℕ)) (t : List ℕ) (id : NameId) → id ≡ id_in names t → IsNumbered (with_one bytes_eq names t) t id
numbered_one names t id is = record { among = among_one t names; number = is ∙ ap named (sym (number_one t names)) }

pub numbered_more : (names : List (List ℕ)) (t u : List ℕ) (id : NameId) → IsNumbered names t id → IsNumbered (with_one bytes_eq names u) t id
numbered_more names t u id before = record {
  among = among_more t names u before.among;
  number = before.number ∙ ap named (sym (number_more t names u before.among));
}

-- ---- lists of texts

pub all_append : (names xs ys : List (List ℕ)) → with_all bytes_eq names (xs ++ ys) ≡ with_all bytes_eq (with_all bytes_eq names xs) ys
all_append names [] ys = refl
all_append names (x ∷ xs) ys = all_append (with_one bytes_eq names x) xs ys

chosen_few : (b : Bool) (names : List (List ℕ)) (t : List ℕ) → length (if b then names else names ++ t ∷ []) ≤ length names + 1
chosen_few true names t = omega arith
chosen_few false names t = omega (arith, length-append names (t ∷ []))

pub few_more : (names xs : List (List ℕ)) → length (with_all bytes_eq names xs) ≤ length names + length xs
few_more names [] = omega arith
few_more names (x ∷ xs) =
    omega (arith, few_more (with_one bytes_eq names x) xs, chosen_few (list_any (bytes_eq x) names) names x)

module _ {A : Type 0} (of : List (List ℕ) → A) where
  pub settled_none : (names : List (List ℕ)) (x : A) → ((ns : List (List ℕ)) → x ≡ of ns) → IsSettled names of x
  settled_none names x same_always = record { is = λ more. same_always (with_all bytes_eq names more) }

  pub settled_on : (names xs : List (List ℕ)) (x : A) → IsSettled names of x → IsSettled (with_all bytes_eq names xs) of x
  settled_on names xs x before = record {
    is = λ more. before.is (xs ++ more) ∙ ap of (all_append names xs more);
  }

  pub settled_more : (names : List (List ℕ)) (t : List ℕ) (x : A) → IsSettled names of x → IsSettled (with_one bytes_eq names t) of x
  settled_more names t x before = settled_on names (t ∷ []) x before

  pub settled_now : (names : List (List ℕ)) (x : A) → IsSettled names of x → x ≡ of names
  settled_now names x before = before.is []

-- one more item of a list
pub settled_push : {A X : Type 0} (of : List (List ℕ) → X → A) (names : List (List ℕ)) (xs : List X) (x : X) (items : List A) (item : A)
    → IsSettled names (λ ns. map (of ns) xs) items → IsSettled names (λ ns. of ns x) item
    → IsSettled names (λ ns. map (of ns) (xs ++ x ∷ [])) (items ++ item ∷ [])
settled_push of names xs x items item before last = record {
  is = λ more.
      ap₂ (λ l i. l ++ i ∷ []) (before.is more) (last.is more) ∙ sym (map-append (of (with_all bytes_eq names more)) xs (x ∷ []));
}
