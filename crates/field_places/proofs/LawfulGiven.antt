-- Fields at places that are given.
use Rattle.std.proofs.Common.{◌≡◌, inl, inr, ℕ, zero, suc, ◌+◌, ◌≤◌, ◌%◌, max, Bool, true, false, not, ◌||◌, ◌==◌, nat_le, List, [], ◌∷◌, length, map, Option, Some, slice_get, refl, ap, ap₂, ◌∙◌, sym, subst, arith, eqb-true}
use Rattle.std.proofs.lemmas.Bool.{and_parts, leb-true}
use Rattle.std.proofs.lemmas.Option.{slice_get_within, get_or_from_slice_get}
use Rattle.std.specs.List.{list_all}
use Rattle.field_places.specs.declared.explicit.Span.{Span}
use Rattle.field_places.specs.declared.shape.Shape.{Shape}
use Rattle.field_places.specs.Shapes as are
use Rattle.field_places.specs.Places.{one_given, given, span, apart, all_apart, is_aligned, last_end}
use Rattle.field_places.specs.Laws.{Stands, Behind, RefsApart, RefsAligned, Covered}
use Rattle.field_places.proofs.Aparts.{each_from_all}
use Rattle.field_places.proofs.Packing.{joined_is, one_is}

abbrev start_of : Span → ℕ
start_of x = x.start

-- the span of a field that stands
pub given_stands : (begin : ℕ) (ps : List (Option ℕ)) (ss : List Shape) (xs : List Span) → given begin ps ss ≡ Some xs → (i q : ℕ) (t : Shape) → Stands (map (λ x. x.start) xs) ss i q t → (slice_get xs i ≡ Some (span q t)) × (begin ≤ q)
given_stands begin [] ss xs e i q t h = absurd (let n : xs ≡ [] = cc in let a = sym (ap (λ l. slice_get (map start_of l) i) n) ∙ h.at in cc)
given_stands begin (p ∷ ps) [] xs e i q t h = absurd (let n = h.takes in cc)
given_stands begin (p ∷ ps) (s ∷ ss) xs e i q t h =
    let j = joined_is (one_given begin p s) (given begin ps ss) xs e in
    let o = one_is begin p s j.0 j.2 in
    let rest = given_stands begin ps ss j.1 j.3 in
    let here = subst (λ (l : List Span). Stands (map start_of l) (s ∷ ss) i q t) j.4 h in
    let r = by j.0 j.1 o.0 o.3 (λ k a. rest k q t a) i here in
    (ap (λ l. slice_get l i) j.4 ∙ r.0, r.1)
  where
    by : (x : Span) (more : List Span) (place : ℕ) → x ≡ span (begin + place) s → ((k : ℕ) → Stands (map start_of more) ss k q t → (slice_get more k ≡ Some (span q t)) × (begin ≤ q))
        → (i : ℕ) → Stands (map start_of (x ∷ more)) (s ∷ ss) i q t → (slice_get (x ∷ more) i ≡ Some (span q t)) × (begin ≤ q)
    by x more place is rest zero h =
        let a = h.at in
        let b = h.takes in
        let at : x.start ≡ q = cc in
        let same : s ≡ t = cc in
        let low : begin + place ≡ q = sym (ap start_of is) ∙ at in
        (ap Some (is ∙ ap₂ span low same), omega arith)
    by x more place is rest (suc k) h = rest k (record { at = h.at; takes = h.takes })

pub given-length : (begin : ℕ) (ps : List (Option ℕ)) (ss : List Shape) (xs : List Span) → given begin ps ss ≡ Some xs → length ps ≡ length ss → length xs ≡ length ss
given-length begin [] [] xs e len = let n : xs ≡ [] = cc in ap length n
given-length begin [] (s ∷ ss) xs e len = absurd (omega arith)
given-length begin (p ∷ ps) [] xs e len = absurd (omega arith)
given-length begin (p ∷ ps) (s ∷ ss) xs e len =
    let j = joined_is (one_given begin p s) (given begin ps ss) xs e in
    ap length j.4 ∙ ap suc (given-length begin ps ss j.1 j.3 (omega arith))

pub last_from : (from : ℕ) (xs : List Span) → from ≤ last_end from xs
last_from from [] = omega arith
last_from from (x ∷ xs) = let r = last_from (max from x.end) xs in omega arith

pub last_covers : (from : ℕ) (xs : List Span) (i : ℕ) (x : Span) → slice_get xs i ≡ Some x → x.end ≤ last_end from xs
last_covers from [] i x e = absurd (cc)
last_covers from (y ∷ xs) zero x e = let same : y ≡ x = cc in let up = last_from (max from y.end) xs in let z = ap (λ s. s.end) same in omega arith
last_covers from (y ∷ xs) (suc i) x e = last_covers (max from y.end) xs i x e

all_get : (p : Span → Bool) (xs : List Span) (i : ℕ) (x : Span) → list_all p xs ≡ true → slice_get xs i ≡ Some x → p x ≡ true
all_get p [] i x h e = absurd (cc)
all_get p (y ∷ ys) zero x h e = let same : y ≡ x = cc in sym (ap p same) ∙ (and_parts _ _ h).0
all_get p (y ∷ ys) (suc i) x h e = all_get p ys i x (and_parts _ _ h).1 e

behind_of : (p q : ℕ) (s t : Shape) → apart (span p s) (span q t) ≡ true → are.has_refs s ≡ true → Behind p s q t
behind_of p q s t h refs = by (nat_le (p + s.size) q) (nat_le (q + t.size) p) (λ e. leb-true _ _ e) (λ e. leb-true _ _ e) (sym (ap (λ b. nat_le (p + s.size) q || nat_le (q + t.size) p || not (b || are.has_refs t)) refs) ∙ h)
  where
    by : (a b : Bool) → (a ≡ true → p + s.size ≤ q) → (b ≡ true → q + t.size ≤ p) → (a || b || not (true || are.has_refs t)) ≡ true → Behind p s q t
    by true b f g h = inl (f refl)
    by false true f g h = inr (g refl)
    by false false f g h = absurd (cc)

module _ (begin : ℕ) (ps : List (Option ℕ)) (ss : List Shape) (xs : List Span) (e : given begin ps ss ≡ Some xs) where
  abbrev places : List ℕ
  places = map start_of xs

  pub given_covered : Covered begin (last_end begin xs) places ss
  given_covered i p s h =
      let g = given_stands begin ps ss xs e i p s h in
      (g.1, last_covers begin xs i (span p s) g.0)

  pub given_apart : all_apart xs ≡ true → RefsApart places ss
  given_apart all i j p q s t ne h k refs =
      let a = given_stands begin ps ss xs e i p s h in
      let b = given_stands begin ps ss xs e j q t k in
      let d = span p s in
      let both = each_from_all xs all i j d ne (slice_get_within xs i (span p s) a.0) (slice_get_within xs j (span q t) b.0) in
      behind_of p q s t (sym (ap₂ apart (get_or_from_slice_get xs i (span p s) d a.0) (get_or_from_slice_get xs j (span q t) d b.0)) ∙ both) refs

  pub given_aligned : list_all is_aligned xs ≡ true → RefsAligned places ss
  given_aligned all i p s h refs =
      let a = given_stands begin ps ss xs e i p s h in
      let one = all_get is_aligned xs i (span p s) all a.0 in
      eqb-true (p % 8) 0 (sym (ap (λ b. not b || p % 8 == 0) refs) ∙ one)
