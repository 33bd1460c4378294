-- Fields at offsets that are given, and only they.
use Rattle.std.proofs.Common.{◌≡◌, ◌⊎◌, inl, inr, ℕ, zero, suc, ◌+◌, ◌≤◌, ◌%◌, max, Bool, true, false, not, ◌&&◌, ◌||◌, nat_le, nat_lt, List, [], ◌∷◌, length, map, Option, Some, slice_get, refl, ap, ap₂, ◌∙◌, sym, subst, arith, eq-eqb}
use Rattle.std.proofs.lemmas.Bool.{cases_Bool, le-leb, ltb-true}
use Rattle.std.specs.List.{list_all}
use Rattle.field_places.specs.declared.explicit.Span.{Span}
use Rattle.field_places.specs.declared.shape.Shape.{Shape}
use Rattle.field_places.specs.Shapes as are
use Rattle.field_places.specs.Places.{one_given, joined, given, span, apart, all_apart, is_aligned, last_end}
use Rattle.field_places.specs.Standing.{Stands, Behind, RefsApart, RefsAligned, IsGiven}
use Rattle.field_places.proofs.Packing.{joined_is, one_is}

abbrev start_of : Span → ℕ
start_of x = x.start

-- the bytes of fields at places
abbrev pub spans_of : List ℕ → List Shape → List Span
spans_of (p ∷ ps) (s ∷ ss) = span p s ∷ spans_of ps ss
spans_of ps ss = []

further : (p : ℕ) (ps : List ℕ) (s : Shape) (ss : List Shape) (i q : ℕ) (t : Shape) → Stands ps ss i q t → Stands (p ∷ ps) (s ∷ ss) (suc i) q t
further p ps s ss i q t h = record { at = h.at; takes = h.takes }

-- ---- from the places to the spans

one_there : (begin : ℕ) (o : Option ℕ) (offset p : ℕ) (s : Shape) → o ≡ Some offset → p ≡ begin + offset → p + s.size ≤ 1048576 → one_given begin o s ≡ Some (span p s)
one_there begin o offset p s is at few = ap (λ x. one_given begin x s) is ∙ elim (cases_Bool (nat_lt 1048576 (begin + offset + s.size))) [
  | inl over ↦ absurd (let l = ltb-true 1048576 (begin + offset + s.size) over in omega arith)
  | inr under ↦ rw under (ap (λ n. Some (span n s)) (sym at))
]

pub given_there : (begin : ℕ) (os : List (Option ℕ)) (ss : List Shape) (ps : List ℕ) → length ps ≡ length ss → length os ≡ length ss → ((i p : ℕ) (s : Shape) → Stands ps ss i p s → IsGiven begin os i p)
    → ((i p : ℕ) (s : Shape) → Stands ps ss i p s → p + s.size ≤ 1048576) → given begin os ss ≡ Some (spans_of ps ss)
given_there begin [] [] [] a b each few = refl
given_there begin [] [] (p ∷ ps) a b each few = absurd (omega arith)
given_there begin [] (s ∷ ss) ps a b each few = absurd (omega arith)
given_there begin (o ∷ os) [] ps a b each few = absurd (omega arith)
given_there begin (o ∷ os) (s ∷ ss) [] a b each few = absurd (omega arith)
given_there begin (o ∷ os) (s ∷ ss) (p ∷ ps) a b each few =
    let here : Stands (p ∷ ps) (s ∷ ss) zero p s = record { at = refl; takes = refl } in
    let g = each zero p s here in
    let is = g.1 in
    let same : o ≡ Some g.0 = cc in
    ap₂ joined (one_there begin o g.0 p s same g.2 (few zero p s here))
    (given_there begin os ss ps (omega arith) (omega arith) (λ i q t h. let k = each (suc i) q t (further p ps s ss i q t h) in (k.0, k.1, k.2)) (λ i q t h. few (suc i) q t (further p ps s ss i q t h)))

pub spans_starts : (ps : List ℕ) (ss : List Shape) → length ps ≡ length ss → map (λ x. x.start) (spans_of ps ss) ≡ ps
spans_starts [] ss h = refl
spans_starts (p ∷ ps) [] h = absurd (omega arith)
spans_starts (p ∷ ps) (s ∷ ss) h = ap (λ l. p ∷ l) (spans_starts ps ss (omega arith))

apart_from : (p : ℕ) (s : Shape) (q : ℕ) (t : Shape) → Behind p s q t → apart (span p s) (span q t) ≡ true
apart_from p s q t (inl h) = rw (le-leb (p + s.size) q h) refl
apart_from p s q t (inr h) = by (nat_le (p + s.size) q) (nat_le (q + t.size) p) (not (are.has_refs s || are.has_refs t)) (le-leb (q + t.size) p h)
  where
    by : (a b c : Bool) → b ≡ true → (a || b || c) ≡ true
    by true b c e = refl
    by false true c e = refl
    by false false c e = absurd (cc)

plain_apart : (p : ℕ) (s : Shape) (q : ℕ) (t : Shape) → are.has_refs s ≡ false → are.has_refs t ≡ false → apart (span p s) (span q t) ≡ true
plain_apart p s q t a b = by (nat_le (p + s.size) q) (nat_le (q + t.size) p) (are.has_refs s) (are.has_refs t) a b
  where
    by : (x y u v : Bool) → u ≡ false → v ≡ false → (x || y || not (u || v)) ≡ true
    by true y u v a b = refl
    by false true u v a b = refl
    by false false true v a b = absurd (cc)
    by false false false true a b = absurd (cc)
    by false false false false a b = refl

pair_apart : (p : ℕ) (s : Shape) (q : ℕ) (t : Shape) → ((are.has_refs s ≡ true) ⊎ (are.has_refs t ≡ true) → Behind p s q t) → apart (span p s) (span q t) ≡ true
pair_apart p s q t h = elim (cases_Bool (are.has_refs s)) [
  | inl e ↦ apart_from p s q t (h (inl e))
  | inr e ↦ elim (cases_Bool (are.has_refs t)) [ inl f ↦ apart_from p s q t (h (inr f)) | inr f ↦ plain_apart p s q t e f ]
]

one_apart : (p : ℕ) (s : Shape) (ps : List ℕ) (ss : List Shape) → ((j q : ℕ) (t : Shape) → Stands ps ss j q t → (are.has_refs s ≡ true) ⊎ (are.has_refs t ≡ true) → Behind p s q t) → list_all (apart (span p s)) (spans_of ps ss) ≡ true
one_apart p s [] ss h = refl
one_apart p s (q ∷ ps) [] h = refl
one_apart p s (q ∷ ps) (t ∷ ss) h = ap₂ ◌&&◌ (pair_apart p s q t (h zero q t (record { at = refl; takes = refl }))) (one_apart p s ps ss (λ j o u k. h (suc j) o u (further q ps t ss j o u k)))

turn : (p : ℕ) (s : Shape) (q : ℕ) (t : Shape) → Behind p s q t → Behind q t p s
turn p s q t (inl h) = inr h
turn p s q t (inr h) = inl h

pub all_apart_from : (ps : List ℕ) (ss : List Shape) → RefsApart ps ss → all_apart (spans_of ps ss) ≡ true
all_apart_from [] ss h = refl
all_apart_from (p ∷ ps) [] h = refl
all_apart_from (p ∷ ps) (s ∷ ss) h =
    let here : Stands (p ∷ ps) (s ∷ ss) zero p s = record { at = refl; takes = refl } in
    ap₂ ◌&&◌ (one_apart p s ps ss (λ j q t k refs. elim refs [
      | inl e ↦ h zero (suc j) p q s t (omega arith) here (further p ps s ss j q t k) e
      | inr e ↦ turn q t p s (h (suc j) zero q p t s (omega arith) (further p ps s ss j q t k) here e)
    ])) (all_apart_from ps ss (λ i j a b u v ne x y e. h (suc i) (suc j) a b u v (λ z. ne (omega arith)) (further p ps s ss i a u x) (further p ps s ss j b v y) e))

pub all_aligned_from : (ps : List ℕ) (ss : List Shape) → RefsAligned ps ss → list_all is_aligned (spans_of ps ss) ≡ true
all_aligned_from [] ss h = refl
all_aligned_from (p ∷ ps) [] h = refl
all_aligned_from (p ∷ ps) (s ∷ ss) h = ap₂ ◌&&◌ first (all_aligned_from ps ss (λ i q t k e. h (suc i) q t (further p ps s ss i q t k) e))
  where
    first : is_aligned (span p s) ≡ true
    first = elim (cases_Bool (are.has_refs s)) [
      | inl e ↦ rw e (eq-eqb (p % 8) 0 (h zero p s (record { at = refl; takes = refl }) e))
      | inr e ↦ rw e refl
    ]

pub last_tight : (from : ℕ) (ps : List ℕ) (ss : List Shape) (m : ℕ) → from ≤ m → ((i p : ℕ) (s : Shape) → Stands ps ss i p s → p + s.size ≤ m) → last_end from (spans_of ps ss) ≤ m
last_tight from [] ss m low h = low
last_tight from (p ∷ ps) [] m low h = low
last_tight from (p ∷ ps) (s ∷ ss) m low h =
    let here = h zero p s (record { at = refl; takes = refl }) in
    last_tight (max from (p + s.size)) ps ss m (omega arith) (λ i q t k. h (suc i) q t (further p ps s ss i q t k))

-- ---- from the spans to the places

module _ (begin : ℕ) where
  pub given_spans : (os : List (Option ℕ)) (ss : List Shape) (xs : List Span) → given begin os ss ≡ Some xs → length os ≡ length ss → xs ≡ spans_of (map (λ x. x.start) xs) ss
  given_spans [] [] xs e len = let n : xs ≡ [] = cc in n ∙ ap (λ l. spans_of (map start_of l) []) (sym n)
  given_spans [] (s ∷ ss) xs e len = absurd (omega arith)
  given_spans (o ∷ os) [] xs e len = absurd (omega arith)
  given_spans (o ∷ os) (s ∷ ss) xs e len =
      let j = joined_is (one_given begin o s) (given begin os ss) xs e in
      let k = one_is begin o s j.0 j.2 in
      let row : xs ≡ span (begin + k.0) s ∷ j.1 = j.4 ∙ ap (λ x. x ∷ j.1) k.3 in
      row ∙ ap (λ l. span (begin + k.0) s ∷ l) (given_spans os ss j.1 j.3 (omega arith)) ∙ ap (λ l. spans_of (map start_of l) (s ∷ ss)) (sym row)

  pub given_each : (os : List (Option ℕ)) (ss : List Shape) (xs : List Span) → given begin os ss ≡ Some xs → (i p : ℕ) (t : Shape) → Stands (map (λ x. x.start) xs) ss i p t → IsGiven begin os i p
  given_each [] ss xs e i p t h = absurd (let n : xs ≡ [] = cc in let a = sym (ap (λ l. slice_get (map start_of l) i) n) ∙ h.at in cc)
  given_each (o ∷ os) [] xs e i p t h = absurd (let n = h.takes in cc)
  given_each (o ∷ os) (s ∷ ss) xs e i p t h =
      let j = joined_is (one_given begin o s) (given begin os ss) xs e in
      let k = one_is begin o s j.0 j.2 in
      let row : xs ≡ span (begin + k.0) s ∷ j.1 = j.4 ∙ ap (λ x. x ∷ j.1) k.3 in
      let rest = given_each os ss j.1 j.3 in
      by k.0 k.1 j.1 (λ n a. rest n p t a) i (subst (λ (l : List Span). Stands (map start_of l) (s ∷ ss) i p t) row h)
    where
      by : (offset : ℕ) → o ≡ Some offset → (more : List Span) → ((n : ℕ) → Stands (map start_of more) ss n p t → IsGiven begin os n p) → (i : ℕ) → Stands (map start_of (span (begin + offset) s ∷ more)) (s ∷ ss) i p t → IsGiven begin (o ∷ os) i p
      by offset is more rest zero h = let a = h.at in let at : begin + offset ≡ p = cc in (offset, ap Some is, sym at)
      by offset is more rest (suc n) h = let k = rest n (record { at = h.at; takes = h.takes }) in (k.0, k.1, k.2)
