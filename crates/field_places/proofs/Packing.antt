-- Shapes of fields, and the packing.
use Rattle.std.proofs.Common.{◌≡◌, ℕ, ◌+◌, ◌≤◌, min, true, false, cond, ◌&&◌, ◌||◌, ◌==◌, nat_lt, List, [], ◌∷◌, map, Option, Some, None, refl, ap, ap₂, ◌∙◌, sym, arith, eq-eqb, true≢false, ◌≢◌, inl, inr}
use Rattle.std.proofs.lemmas.Bool.{cases_Bool, and_parts, or_parts, le-leb, lt-ltb, ltb-false}
use Rattle.std.specs.List.{list_all}
use Rattle.field_places.specs.declared.explicit.Span.{Span}
use Rattle.field_places.specs.declared.shape.Content.{Content}
use Rattle.field_places.specs.declared.shape.Content.TheVariants.{Plain, Holds, Reference}
use Rattle.field_places.specs.declared.shape.Arrangement.{Arrangement}
use Rattle.field_places.specs.declared.shape.Arrangement.TheVariants.{Auto, Sequential, Explicit}
use Rattle.field_places.specs.declared.shape.Shape.{Shape}
use Rattle.field_places.specs.Shapes as are
use Rattle.field_places.specs.Places.{one_given, joined, given, some_bytes, span}
use Rattle.field_places.specs.Layouts.{greatest_align}
use Rattle.field_places.proofs.Orders.{IsShape, shape_is}

pub is_from : (s : Shape) → IsShape s → (are.is_plain s.content || s.align == 8) ≡ true → are.is_shape s ≡ true
is_from s h refs = rw (le-leb 1 s.size h.some, le-leb s.size 1048576 h.few, le-leb 1 s.align h.aligned, le-leb s.align 8 h.align_few, refs) refl

plain_is : (c : Content) → cond (are.is_plain c) false true ≡ false → are.is_plain c ≡ true
plain_is Plain h = refl
plain_is Holds h = absurd (cc)
plain_is Reference h = absurd (cc)

limited_shape : (packing : ℕ) (s : Shape) → are.is_shape s ≡ true → are.has_refs s ≡ false → are.is_shape (are.limited packing s) ≡ true
limited_shape packing s h plain = elim (cases_Bool (packing == 0)) [
  | inl e ↦ rw e h
  | inr e ↦
      let k = shape_is s h in
      let some : packing ≢ 0 = λ z. true≢false (sym (eq-eqb packing 0 z) ∙ e) in
      let one : 1 ≤ packing = omega arith in
      let a = k.aligned in
      let b = k.align_few in
      let low : 1 ≤ min s.align packing = omega arith in
      let few : min s.align packing ≤ 8 = omega arith in
      rw e (is_from (record { size = s.size; align = min s.align packing; content = s.content }) (record { some = k.some; few = k.few; aligned = low; align_few = few }) (rw (plain_is s.content plain) refl))
]

pub limited_shapes : (packing : ℕ) (ss : List Shape) → are.are_shapes ss ≡ true → are.any_refs ss ≡ false → are.are_shapes (map (are.limited packing) ss) ≡ true
limited_shapes packing [] h plain = refl
limited_shapes packing (s ∷ ss) h plain =
    let a = and_parts _ _ h in let p = or_parts _ _ plain in
    ap₂ ◌&&◌ (limited_shape packing s a.0 p.0) (limited_shapes packing ss a.1 p.1)

pub packed_shapes : (declared : Arrangement) (packing : ℕ) (ss : List Shape) → are.are_shapes ss ≡ true → are.are_shapes (are.packed (are.arrangement (are.any_refs ss) declared) packing ss) ≡ true
packed_shapes Auto packing ss h = h
packed_shapes Explicit packing ss h = h
packed_shapes Sequential packing ss h = elim (cases_Bool (are.any_refs ss)) [
  | inl e ↦ rw e h
  | inr e ↦ rw e (limited_shapes packing ss h e)
]

pub greatest_some : (ss : List Shape) → 1 ≤ greatest_align ss
greatest_some [] = omega arith
greatest_some (s ∷ ss) = let h = greatest_some ss in omega arith

-- what the first and the others are where all have a place
pub joined_is : (o : Option Span) (more : Option (List Span)) (xs : List Span) → joined o more ≡ Some xs → (x : Span) × (rest : List Span) × (o ≡ Some x) × (more ≡ Some rest) × (xs ≡ x ∷ rest)
joined_is (Some x) (Some rest) xs e = (x, rest, refl, refl, cc)
joined_is (Some x) None xs e = absurd (cc)
joined_is None None xs e = absurd (cc)
joined_is None (Some rest) xs e = absurd (cc)

pub one_is : (begin : ℕ) (p : Option ℕ) (s : Shape) (x : Span) → one_given begin p s ≡ Some x → (q : ℕ) × (p ≡ Some q) × (begin + q + s.size ≤ 1048576) × (x ≡ span (begin + q) s)
one_is begin None s x e = absurd (cc)
one_is begin (Some q) s x e = elim (cases_Bool (nat_lt 1048576 (begin + q + s.size))) [
  | inl over ↦ absurd (let n : one_given begin (Some q) s ≡ None = rw over refl in let m : None ≡ Some x = sym n ∙ e in cc)
  | inr under ↦ (q, refl, ltb-false 1048576 (begin + q + s.size) under, let n : one_given begin (Some q) s ≡ Some (span (begin + q) s) = rw under refl in let m : Some (span (begin + q) s) ≡ Some x = sym n ∙ e in cc)
]

pub given_some : (begin : ℕ) (ps : List (Option ℕ)) (ss : List Shape) (xs : List Span) → given begin ps ss ≡ Some xs → are.are_shapes ss ≡ true → list_all some_bytes xs ≡ true
given_some begin [] ss xs e h = let n : xs ≡ [] = cc in ap (list_all some_bytes) n
given_some begin (p ∷ ps) [] xs e h = let n : xs ≡ [] = cc in ap (list_all some_bytes) n
given_some begin (p ∷ ps) (s ∷ ss) xs e h =
    let j = joined_is (one_given begin p s) (given begin ps ss) xs e in
    let o = one_is begin p s j.0 j.2 in
    let a = and_parts _ _ h in
    let k = (shape_is s a.0).some in
    let first : some_bytes j.0 ≡ true = ap some_bytes o.3 ∙ lt-ltb (begin + o.0) (begin + o.0 + s.size) (omega arith) in
    ap (list_all some_bytes) j.4 ∙ ap₂ ◌&&◌ first (given_some begin ps ss j.1 j.3 a.1)
