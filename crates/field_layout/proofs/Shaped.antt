-- What fields take are shapes.
use Rattle.std.proofs.Common.{◌≡◌, inl, inr, ℕ, zero, suc, ◌+◌, Bool, true, false, cond, ◌&&◌, ◌||◌, ◌==◌, List, [], ◌∷◌, length, map, Option, Some, None, slice_get, refl, ap, ap₂, ◌∙◌, sym, subst, arith}
use Rattle.std.proofs.lemmas.Bool.{cases_Bool, or_parts, eq-eqb}
use Rattle.std.proofs.lemmas.List.{length-map}
use Rattle.std.specs.List.{list_any}
use Rattle.type_tree.specs.declared.tree.Ty.{Ty}
use Rattle.type_tree.specs.declared.tree.Ty.TheOpen.{Ty-F}
use Rattle.type_tree.specs.declared.tree.Ty.TheViews.{out-Ty}
use Rattle.type_tree.specs.declared.definition.Def.{Def}
use Rattle.type_tree.specs.World.{Facts}
use Rattle.type_tree.specs.Kinds.{is_value_def}
use Rattle.field_places.specs.declared.shape.Content.TheVariants.{Plain, Holds}
use Rattle.field_places.specs.declared.shape.Shape.{Shape}
use Rattle.field_places.specs.declared.layout.Layout.{Layout}
use Rattle.field_places.specs.Shapes.{is_shape, are_shapes, is_plain}
use Rattle.field_places.specs.Layouts.{own_part}
use Rattle.field_places.proofs.OwnFacts.{own_part_sound}
use Rattle.field_places.proofs.Packing.{is_from}
use Rattle.field_layout.specs.declared.answer.ShapeAnswer.{ShapeAnswer}
use Rattle.field_layout.specs.declared.answer.ShapeAnswer.TheVariants.{Takes, Deep, Bad}
use Rattle.field_layout.specs.Fields.{own_fields, type_in, field_types, rules_of, given_places, width}
use Rattle.field_layout.specs.Shapes.{Shapes, All, SomeDeep, SomeBad, field_shape, field_at, value_shape, own_shapes, shape_from, shape_of, layout_shape, plain, reference, together, is_deep, is_bad, shapes_of}
use Rattle.field_layout.specs.Notes.{noted_is_shape, plain_note}
use Rattle.field_layout.proofs.Levels.{shape_zero, shape_next, width_shape}

-- whatever a field of this takes is a shape
abbrev Sound : ShapeAnswer → Type 0
Sound a = (s : Shape) → a ≡ Takes s → is_shape s ≡ true

takes_sound : (s : Shape) → is_shape s ≡ true → Sound (Takes s)
takes_sound s h u e = let same : s ≡ u = cc in ap is_shape (sym same) ∙ h

deep_sound : Sound Deep
deep_sound s e = absurd (cc)

bad_sound : Sound Bad
bad_sound s e = absurd (cc)

-- ---- several fields

shapes_sound : (f : Ty → ShapeAnswer) → ((u : Ty) → Sound (f u)) → (us : List Ty) → are_shapes (shapes_of (map f us)) ≡ true
shapes_sound f h [] = refl
shapes_sound f h (u ∷ us) = by (f u) (h u) (shapes_sound f h us)
  where
    by : (a : ShapeAnswer) → Sound a → are_shapes (shapes_of (map f us)) ≡ true → are_shapes (shapes_of (a ∷ map f us)) ≡ true
    by (Takes s) k r = ap₂ ◌&&◌ (k s refl) r
    by Deep k r = r
    by Bad k r = r

record Together (answers : List ShapeAnswer) (ss : List Shape) : Type 0 where
  shallow : list_any is_deep answers ≡ false
  good : list_any is_bad answers ≡ false
  shapes : shapes_of answers ≡ ss

together_is : (answers : List ShapeAnswer) (ss : List Shape) → together answers ≡ All ss → Together answers ss
together_is answers ss e = elim (cases_Bool (list_any is_deep answers)) [
  | inl deep ↦ absurd (let n : together answers ≡ SomeDeep = rw deep refl in let m : SomeDeep ≡ All ss = sym n ∙ e in cc)
  | inr shallow ↦ elim (cases_Bool (list_any is_bad answers)) [
    | inl bad ↦ absurd (let n : together answers ≡ SomeBad = rw (shallow, bad) refl in let m : SomeBad ≡ All ss = sym n ∙ e in cc)
    | inr good ↦
        let n : together answers ≡ All (shapes_of answers) = rw (shallow, good) refl in
        let m : All (shapes_of answers) ≡ All ss = sym n ∙ e in
        record { shallow = shallow; good = good; shapes = cc }
  ]
]

all_long : (answers : List ShapeAnswer) → list_any is_deep answers ≡ false → list_any is_bad answers ≡ false → length (shapes_of answers) ≡ length answers
all_long [] h k = refl
all_long (Takes s ∷ more) h k = ap suc (all_long more h k)
all_long (Deep ∷ more) h k = absurd (cc)
all_long (Bad ∷ more) h k = absurd (cc)

together_sound : (f : Ty → ShapeAnswer) → ((u : Ty) → Sound (f u)) → (us : List Ty) (ss : List Shape) → together (map f us) ≡ All ss → (are_shapes ss ≡ true) × (length ss ≡ length us)
together_sound f h us ss e =
    let t = together_is (map f us) ss e in
    (ap are_shapes (sym t.shapes) ∙ shapes_sound f h us, ap length (sym t.shapes) ∙ all_long (map f us) t.shallow t.good ∙ length-map us f)

-- ---- one field

layout_sound : (w : Facts) (d : Def) (ss : List Shape) → are_shapes ss ≡ true → (o : Option Layout) → own_part (rules_of true d) 0 (given_places w d) ss ≡ o → Sound (shape_of o)
layout_sound w d ss sound None e = bad_sound
layout_sound w d ss sound (Some l) e =
    let k = own_part_sound (rules_of true d) 0 ss sound (given_places w d) l e in
    takes_sound (layout_shape l) (is_from (layout_shape l) (record { some = k.some refl; few = k.few; aligned = k.aligned; align_few = k.align_few }) (refs l.has_refs k.refs_align))
  where
    refs : (b : Bool) → (b ≡ true → l.align ≡ 8) → (is_plain (cond b Holds Plain) || l.align == 8) ≡ true
    refs true h = eq-eqb l.align 8 (h refl)
    refs false h = refl

shape_from_sound : (w : Facts) (d : Def) (o : Shapes) → ((ss : List Shape) → o ≡ All ss → are_shapes ss ≡ true) → Sound (shape_from w d o)
shape_from_sound w d SomeDeep h = deep_sound
shape_from_sound w d SomeBad h = bad_sound
shape_from_sound w d (All ss) h = layout_sound w d ss (h ss refl) (own_part (rules_of true d) 0 (given_places w d) ss) refl

value_sound : (inner : Ty → ShapeAnswer) → ((u : Ty) → Sound (inner u)) → (w : Facts) (args : List Ty) (o : Option ℕ) (d : Option Def) → ((n : ℕ) → o ≡ Some n → noted_is_shape (plain_note 1 n).shape ≡ true) → Sound (value_shape inner w args o d)
value_sound inner h w args (Some n) None good = takes_sound _ (good n refl)
value_sound inner h w args (Some n) (Some d) good = takes_sound _ (good n refl)
value_sound inner h w args None None good = takes_sound _ refl
value_sound inner h w args None (Some d) good = shape_from_sound w d (together (map inner (field_types w d args))) (λ ss e. (together_sound inner h (field_types w d args) ss e).0)

-- what is known of what stands below
abbrev Below : Option (Ty → ShapeAnswer) → Type 0
Below None = Unit {0}
Below (Some inner) = (u : Ty) → Sound (inner u)

level_sound : (w : Facts) (below : Option (Ty → ShapeAnswer)) → Below below → (y : Ty-F Ty) → Sound (field_at below w y)
level_sound w below h (Ty-F.Inst id args) = elim (cases_Bool (is_value_def w id)) [
  | inl value ↦ by below h value
  | inr other ↦ let e : field_at below w (Ty-F.Inst id args) ≡ reference = rw other refl in subst (λ (a : ShapeAnswer). Sound a) (sym e) (takes_sound _ refl)
]
  where
    by : (o : Option (Ty → ShapeAnswer)) → Below o → is_value_def w id ≡ true → Sound (field_at o w (Ty-F.Inst id args))
    by None h value = let e : field_at None w (Ty-F.Inst id args) ≡ Deep = rw value refl in subst (λ (a : ShapeAnswer). Sound a) (sym e) deep_sound
    by (Some inner) h value =
        let e : field_at (Some inner) w (Ty-F.Inst id args) ≡ value_shape inner w args (width w id) (slice_get w.defs id.0) = rw value refl in
        subst (λ (a : ShapeAnswer). Sound a) (sym e) (value_sound inner h w args (width w id) (slice_get w.defs id.0) (λ n k. width_shape w id n k))
level_sound w below h (Ty-F.Array x) = takes_sound _ refl
level_sound w below h (Ty-F.ByRef x) = takes_sound _ refl
level_sound w below h (Ty-F.Ptr x) = takes_sound _ refl
level_sound w below h (Ty-F.Var k) = takes_sound _ refl
level_sound w below h (Ty-F.MVar k) = takes_sound _ refl
level_sound w None h (Ty-F.Missing name true) = deep_sound
level_sound w (Some inner) h (Ty-F.Missing name true) = takes_sound _ refl
level_sound w below h (Ty-F.Missing name false) = takes_sound _ refl
level_sound w below h (Ty-F.Odd k) = takes_sound _ refl

pub field_sound : (w : Facts) (m : ℕ) (u : Ty) → Sound (field_shape m w u)
field_sound w zero u = subst (λ (a : ShapeAnswer). Sound a) (sym (shape_zero w u)) (level_sound w None tt (out-Ty u))
field_sound w (suc m) u = subst (λ (a : ShapeAnswer). Sound a) (sym (shape_next w u m)) (level_sound w (Some (field_shape m w)) (λ x. field_sound w m x) (out-Ty u))

-- the own fields of a type
pub own_sound : (w : Facts) (m : ℕ) (d : Def) (args : List Ty) (ss : List Shape) → own_shapes m w d args ≡ All ss → (are_shapes ss ≡ true) × (length ss ≡ length (own_fields w d))
own_sound w m d args ss e =
    let k = together_sound (field_shape m w) (field_sound w m) (field_types w d args) ss e in
    (k.0, k.1 ∙ length-map (own_fields w d) (type_in args))
