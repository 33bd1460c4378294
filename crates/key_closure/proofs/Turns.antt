-- What is listed after some turns.
use Rattle.std.proofs.Common.{◌≡◌, ℕ, zero, suc, ◌≤◌, ◌<◌, Bool, true, false, ◌&&◌, ◌⊎◌, inl, inr, List, [], ◌∷◌, ◌++◌, length, Option, Some, None, slice_get, refl, ap, ◌∙◌, sym, subst, arith, length-append, true≢false}
use Rattle.std.specs.Prelude.{nat_le, nat_lt}
use Rattle.std.specs.List.{list_all, Contains}
use Rattle.std.proofs.lemmas.Bool.{cases_Bool, and_parts, ltb-true}
use Rattle.std.proofs.lemmas.Bool.Decides.{nat_tests}
use Rattle.std.proofs.lemmas.Option.{slice_get_within, slice_get_cases}
use Rattle.std.proofs.lemmas.List.Folds.{list_all-append}
use Rattle.type_tree.specs.declared.tree.Key.{Key}
use Rattle.type_pool.proofs.Gets.{get_grows}
use Rattle.key_closure.specs.Closures.{AddsAll, needs_of, Listed, IsWhole, IsLeast}
use Rattle.key_closure.specs.Bounds.{fits, is_within, IsClosure, IsTooLarge}
use Rattle.key_closure.proofs.ListSteps.{all_front, all_one, all_keeps, all_has, all_from, contains_at, only_in, none_in, in_cases, first_in}

pub order : (m n : ℕ) → (m < n) ⊎ (n ≤ m)
order m n = elim (cases_Bool (nat_lt m n)) [ inl e ↦ inl (ltb-true m n e) | inr e ↦ inr (not_less m n e) ]
  where
    not_less : (m n : ℕ) → nat_lt m n ≡ false → n ≤ m
    not_less m n e = grind (arith, nat_tests)

past : {X : Type 0} (xs : List X) (i : ℕ) → length xs ≤ i → slice_get xs i ≡ None
past xs i h = elim ((slice_get_cases xs i).1) [ inl there ↦ absurd (let low = there.1 in omega arith) | inr none ↦ none.1 ]

place_of : {X : Type 0} (xs : List X) (y : X) → Contains xs y → (i : ℕ) × (slice_get xs i ≡ Some y)
place_of [] y c = absurd (none_in y c)
place_of (x ∷ xs) y c = elim (in_cases x xs y c) [ inl e ↦ (0, ap Some e) | inr later ↦ let r = place_of xs y later in (suc r.0, r.1) ]

-- an element of the front
in_front : {X : Type 0} (xs rest ys : List X) (i : ℕ) (y : X) → ys ≡ xs ++ rest → i < length xs → slice_get ys i ≡ Some y → slice_get xs i ≡ Some y
in_front xs rest ys i y e low h = elim ((slice_get_cases xs i).1) [
  | inl there ↦ let grown = get_grows xs rest i there.0 there.2 in there.2 ∙ (sym grown ∙ (ap (λ l. slice_get l i) (sym e) ∙ h))
  | inr none ↦ absurd (let past_end = none.0 in omega arith)
]

module _ {X : Type 0} (needs : X → List X) (x : X) where
  pub listed_one : (n : ℕ) (a b : List X) → Listed needs x n a → Listed needs x n b → a ≡ b
  listed_one zero a b p q = p ∙ sym q
  listed_one (suc n) a b p q =
      let e : p.0 ≡ q.0 = listed_one n p.0 q.0 p.1 q.1 in
      all_one q.0 (needs_of needs (slice_get q.0 n)) a b (subst (λ (l : List X). AddsAll l (needs_of needs (slice_get l n)) a) e p.2) q.2

  at_turn : (m n : ℕ) (a b : List X) → m ≡ n → Listed needs x m a → Listed needs x n b → b ≡ a
  at_turn m n a b e p q = listed_one n b a q (subst (λ (k : ℕ). Listed needs x k a) e p)

  -- once each one was taken, further turns add nothing
  pub listed_stays : (m n : ℕ) (a b : List X) → m ≤ n → length a ≤ m → Listed needs x m a → Listed needs x n b → b ≡ a
  listed_stays m zero a b low taken p q = at_turn m zero a b (omega arith) p q
  listed_stays m (suc n) a b low taken p q = elim (order n m) [
    | inl less ↦ at_turn m (suc n) a b (omega (arith, low)) p q
    | inr more ↦
        let before : q.0 ≡ a = listed_stays m n a q.0 more taken p q.1 in
        let none : slice_get q.0 n ≡ None = ap (λ (l : List X). slice_get l n) before ∙ past a n (omega (arith, taken)) in
        let last : b ≡ q.0 = subst (λ (o : Option X). AddsAll q.0 (needs_of needs o) b) none q.2 in
        last ∙ before
  ]

  -- what was listed stays in front
  pub listed_front : (m n : ℕ) (a b : List X) → m ≤ n → Listed needs x m a → Listed needs x n b → (rest : List X) × (b ≡ a ++ rest)
  listed_front m zero a b low p q = ([], at_turn m zero a b (omega arith) p q ∙ append_none a)
    where
      append_none : (l : List X) → l ≡ l ++ []
      append_none [] = refl
      append_none (y ∷ ys) = ap (λ z. y ∷ z) (append_none ys)
  listed_front m (suc n) a b low p q = elim (order n m) [
    | inl less ↦ all_front a [] b (at_turn m (suc n) a b (omega (arith, low)) p q)
    | inr more ↦
        let before = listed_front m n a q.0 more p q.1 in
        let last = all_front q.0 (needs_of needs (slice_get q.0 n)) b q.2 in
        (before.0 ++ last.0, last.1 ∙ (ap (λ l. l ++ last.0) before.1 ∙ assoc a before.0 last.0))
  ]
    where
      assoc : (u v w : List X) → (u ++ v) ++ w ≡ u ++ (v ++ w)
      assoc [] v w = refl
      assoc (y ∷ ys) v w = ap (λ z. y ∷ z) (assoc ys v w)

  -- what holds after n turns
  record After (n : ℕ) (listed : List X) : Type 0 where
    root : Contains listed x
    closed : (i : ℕ) (y z : X) → i < n → slice_get listed i ≡ Some y → Contains (needs y) z → Contains listed z
    least : (S : X → Bool) → S x ≡ true → ((y z : X) → S y ≡ true → Contains (needs y) z → S z ≡ true) → (y : X) → Contains listed y → S y ≡ true

  next_turn : (n : ℕ) (before listed : List X) (taken : Option X) → slice_get before n ≡ taken → AddsAll before (needs_of needs taken) listed → After n before → After (suc n) listed
  next_turn n before listed None at adds a = record {
    root = subst (λ (l : List X). Contains l x) (sym adds) a.root;
    closed = λ i y z low h d. elim (order i n) [
      | inl less ↦ subst (λ (l : List X). Contains l z) (sym adds) (a.closed i y z less (subst (λ (l : List X). slice_get l i ≡ Some y) adds h) d)
      | inr more ↦ let is : i ≡ n = omega (arith, low) in absurd (clash (slice_get before n) y at (subst (λ (k : ℕ). slice_get before k ≡ Some y) is (subst (λ (l : List X). slice_get l i ≡ Some y) adds h)))
    ];
    least = λ S at_root step y c. a.least S at_root step y (subst (λ (l : List X). Contains l y) adds c);
  }
    where
      clash : (o : Option X) (y : X) → o ≡ None → o ≡ Some y → ⊥
      clash o y p q = let e : None ≡ Some y = sym p ∙ q in absurd (cc)
  next_turn n before listed (Some w) at adds a =
      let inside : n < length before = slice_get_within before n w at in
      let front = all_front before (needs w) listed adds in record {
        root = all_keeps before (needs w) listed x adds a.root;
        closed = λ i y z low h d. elim (order i n) [
          | inl less ↦ all_keeps before (needs w) listed z adds (a.closed i y z less (in_front before front.0 listed i y front.1 (omega arith) h) d)
          | inr more ↦
              let is : i ≡ n = omega (arith, low) in
              let old : slice_get before i ≡ Some y = in_front before front.0 listed i y front.1 (omega arith) h in
              let same : w ≡ y = unsome w y (sym at ∙ subst (λ (k : ℕ). slice_get before k ≡ Some y) is old) in
              all_has before (needs w) listed z adds (subst (λ (v : X). Contains (needs v) z) (sym same) d)
        ];
        least = λ S at_root step y c. elim (all_from before (needs w) listed y adds c) [
          | inl old ↦ a.least S at_root step y old
          | inr new ↦ step w y (a.least S at_root step w (contains_at before n w at)) new
        ];
      }
    where
      unsome : (u v : X) → Some u ≡ Some v → u ≡ v
      unsome u v e = cc

  after : (n : ℕ) (listed : List X) → Listed needs x n listed → After n listed
  after zero listed h = record {
    root = subst (λ (l : List X). Contains l x) (sym h) (first_in x []);
    closed = λ i y z low at d. absurd (omega arith);
    least = λ S at_root step y c. ap S (sym (only_in x y (subst (λ (l : List X). Contains l y) h c))) ∙ at_root;
  }
  after (suc n) listed h = next_turn n h.0 listed (slice_get h.0 n) refl h.2 (after n h.0 h.1)

  pub whole_least : (members : List X) → IsWhole needs x members → IsLeast needs x members
  whole_least members w = let a = after w.turns members w.listed in record {
    root = a.root;
    closed = λ y z c d. let p = place_of members y c in a.closed p.0 y z (let low = slice_get_within members p.0 y p.1 in let all = w.taken in omega arith) p.1 d;
    least = a.least;
  }

  pub whole_one : (a b : List X) → IsWhole needs x a → IsWhole needs x b → a ≡ b
  whole_one a b p q = elim (order p.turns q.turns) [
    | inl less ↦ sym (listed_stays p.turns q.turns a b (omega arith) p.taken p.listed q.listed)
    | inr more ↦ listed_stays q.turns p.turns b a more q.taken q.listed p.listed
  ]

front_within : (xs rest : List Key) → is_within (xs ++ rest) ≡ true → is_within xs ≡ true
front_within xs rest h =
    let parts = and_parts (nat_le (length (xs ++ rest)) 4096) (list_all fits (xs ++ rest)) h in
    let all = and_parts (list_all fits xs) (list_all fits rest) (sym (list_all-append fits xs rest) ∙ parts.1) in
    ap (λ b. b && list_all fits xs) (shorter (length xs) (length (xs ++ rest)) (let e = length-append xs rest in omega arith) parts.0) ∙ all.0
  where
    shorter : (m n : ℕ) → m ≤ n → nat_le n 4096 ≡ true → nat_le m 4096 ≡ true
    shorter m n low h = grind (arith, nat_tests)

pub not_both : (needs : Key → List Key) (key : Key) (members : List Key) → IsClosure needs key members → IsTooLarge needs key → ⊥
not_both needs key members c t = elim (order t.0 c.whole.turns) [
  | inl less ↦ let front = listed_front needs key t.0 c.whole.turns t.1 members (omega arith) t.2 c.whole.listed in
      true≢false (sym (front_within t.1 front.0 (ap is_within (sym front.1) ∙ c.within)) ∙ t.3)
  | inr more ↦ let same = listed_stays needs key c.whole.turns t.0 members t.1 more c.whole.taken c.whole.listed t.2 in
      true≢false (sym (ap is_within same ∙ c.within) ∙ t.3)
]
