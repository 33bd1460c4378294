-- What is known of a layout.
use Rattle.std.proofs.Common.{◌≡◌, ℕ, ◌+◌, ◌≤◌, max, Bool, true, false, cond, ◌||◌, ◌==◌, nat_lt, List, [], ◌∷◌, Option, Some, None, refl, ap, ◌∙◌, sym, arith, eqb-true, inl, inr}
use Rattle.std.proofs.lemmas.Bool.{cases_Bool, and_parts, ltb-false}
use Rattle.field_places.specs.declared.shape.Arrangement.{Arrangement}
use Rattle.field_places.specs.declared.shape.Arrangement.TheVariants.{Auto, Sequential, Explicit}
use Rattle.field_places.specs.declared.shape.Shape.{Shape}
use Rattle.field_places.specs.declared.layout.Layout.{Layout}
use Rattle.field_places.specs.declared.layout.Rules.{Rules}
use Rattle.field_places.specs.declared.layout.Places.{Places}
use Rattle.field_places.specs.Shapes as are
use Rattle.field_places.specs.Places.{least_at}
use Rattle.field_places.specs.Layouts.{own_part, own_places, finished, sized, greatest_align}
use Rattle.field_places.proofs.Least.{least_at-is}
use Rattle.field_places.proofs.Orders.{shape_is}
use Rattle.field_places.proofs.Packing.{packed_shapes, greatest_some}

abbrev pub size_of : Bool → ℕ → ℕ → ℕ
size_of value end align = max (least_at align end) (cond value 1 0)

pub sized_is : (value : Bool) (places : List ℕ) (end align : ℕ) (refs : Bool) (l : Layout) → sized value places end align refs ≡ Some l
    → (size_of value end align ≤ 1048576) × (l ≡ record { offsets = places; end = end; size = size_of value end align; align = align; has_refs = refs })
sized_is value places end align refs l h = elim (cases_Bool (nat_lt 1048576 (size_of value end align))) [
  | inl over ↦ absurd (let n : sized value places end align refs ≡ None = rw over refl in let m : None ≡ Some l = sym n ∙ h in cc)
  | inr under ↦ (
    ltb-false 1048576 (size_of value end align) under,
    let n : sized value places end align refs ≡ Some (record { offsets = places; end = end; size = size_of value end align; align = align; has_refs = refs }) = rw under refl in
        let m : Some (record { offsets = places; end = end; size = size_of value end align; align = align; has_refs = refs }) ≡ Some l = sym n ∙ h in cc,
  )
]

pub finished_is : (rules : Rules) (begin : ℕ) (refs : Bool) (ss : List Shape) (o : Option Places) (l : Layout) → finished rules begin refs ss o ≡ Some l
    → (p : Places) × (o ≡ Some p) × (sized rules.value p.offsets (max p.end (begin + rules.least_size)) (cond rules.value (greatest_align ss) 8) refs ≡ Some l)
finished_is rules begin refs ss None l h = absurd (cc)
finished_is rules begin refs ss (Some p) l h = (p, refl, h)

pub greatest_few : (ss : List Shape) → are.are_shapes ss ≡ true → greatest_align ss ≤ 8
greatest_few [] h = omega arith
greatest_few (s ∷ ss) h = let a = and_parts _ _ h in let k = (shape_is s a.0).align_few in let r = greatest_few ss a.1 in omega arith

pub shape_refs : (s : Shape) → are.is_shape s ≡ true → are.has_refs s ≡ true → s.align ≡ 8
shape_refs s h refs = eqb-true s.align 8 (other (are.is_plain s.content) (s.align == 8) refs (and_parts _ _ h).1)
  where
    other : (p e : Bool) → cond p false true ≡ true → (p || e) ≡ true → e ≡ true
    other true e a b = absurd (cc)
    other false e a b = b

pub greatest_refs : (ss : List Shape) → are.are_shapes ss ≡ true → are.any_refs ss ≡ true → 8 ≤ greatest_align ss
greatest_refs [] h refs = absurd (cc)
greatest_refs (s ∷ ss) h refs = let a = and_parts _ _ h in elim (cases_Bool (are.has_refs s)) [
  | inl e ↦ let k = shape_refs s a.0 e in omega arith
  | inr e ↦ let r = greatest_refs ss a.1 (ap (λ b. b || are.any_refs ss) (sym e) ∙ refs) in omega arith
]

-- where a field has references the packing counts for nothing
pub packed_refs : (declared : Arrangement) (packing : ℕ) (ss : List Shape) → are.any_refs ss ≡ true → are.packed (are.arrangement (are.any_refs ss) declared) packing ss ≡ ss
packed_refs Auto packing ss refs = refl
packed_refs Explicit packing ss refs = refl
packed_refs Sequential packing ss refs = rw refs refl

least_one : (v : Bool) (n : ℕ) → v ≡ true → 1 ≤ max n (cond v 1 0)
least_one true n h = omega arith
least_one false n h = absurd (cc)

-- what holds of each layout
pub record SoundLayout (rules : Rules) (begin : ℕ) (ss : List Shape) (l : Layout) : Type 0 where
  pub few : l.size ≤ 1048576
  pub covers : l.end ≤ l.size
  pub goes_on : begin + rules.least_size ≤ l.end
  pub aligned : 1 ≤ l.align
  pub align_few : l.align ≤ 8
  pub some : rules.value ≡ true → 1 ≤ l.size
  pub refs : l.has_refs ≡ are.any_refs ss
  pub refs_align : l.has_refs ≡ true → l.align ≡ 8

module _ (rules : Rules) (begin : ℕ) (ss : List Shape) (h : are.are_shapes ss ≡ true) where
  abbrev fields : List Shape
  fields = are.packed (are.arrangement (are.any_refs ss) rules.arrangement) rules.packing ss

  abbrev align : ℕ
  align = cond rules.value (greatest_align fields) 8

  align_some : 1 ≤ align
  align_some = by rules.value
    where
      by : (v : Bool) → 1 ≤ cond v (greatest_align fields) 8
      by true = greatest_some fields
      by false = omega arith

  align_max : align ≤ 8
  align_max = by rules.value
    where
      by : (v : Bool) → cond v (greatest_align fields) 8 ≤ 8
      by true = greatest_few fields (packed_shapes rules.arrangement rules.packing ss h)
      by false = omega arith

  align_refs : are.any_refs ss ≡ true → align ≡ 8
  align_refs refs = by rules.value
    where
      by : (v : Bool) → cond v (greatest_align fields) 8 ≡ 8
      by true =
          let low = greatest_refs ss h refs in
          let few = greatest_few ss h in
          ap greatest_align (packed_refs rules.arrangement rules.packing ss refs) ∙ (omega arith)
      by false = refl

  pub sound_sized : (places : List ℕ) (last : ℕ) (l : Layout) → sized rules.value places (max last (begin + rules.least_size)) align (are.any_refs ss) ≡ Some l → SoundLayout rules begin ss l
  sound_sized places last l e =
      let end : ℕ = max last (begin + rules.least_size) in
      let k = sized_is rules.value places end align (are.any_refs ss) l e in
      let up = (least_at-is align end align_some).above in
      let size : l.size ≡ size_of rules.value end align = ap (λ x. x.size) k.1 in
      let ends : l.end ≡ end = ap (λ x. x.end) k.1 in
      let al : l.align ≡ align = ap (λ x. x.align) k.1 in
      let rf : l.has_refs ≡ are.any_refs ss = ap (λ x. x.has_refs) k.1 in
      record {
        few = let b = k.0 in omega (arith, b, size);
        covers = omega (arith, size, ends, up);
        goes_on = omega (arith, ends);
        aligned = let a = align_some in omega (arith, a, al);
        align_few = let a = align_max in omega (arith, a, al);
        some = λ v. let one = least_one rules.value (least_at align end) v in omega (arith, one, size);
        refs = rf;
        refs_align = λ r. al ∙ align_refs (sym rf ∙ r);
      }

  pub own_part_sound : (offsets : List (Option ℕ)) (l : Layout) → own_part rules begin offsets ss ≡ Some l → SoundLayout rules begin ss l
  unfolding own_part
  own_part_sound offsets l e =
      let f = finished_is rules begin (are.any_refs ss) fields (own_places (are.arrangement (are.any_refs ss) rules.arrangement) begin offsets fields) l e in
      sound_sized f.0.offsets f.0.end l f.2
