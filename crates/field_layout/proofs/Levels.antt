-- What the level of a type says of a field of it.
use Rattle.std.proofs.Common.{◌≡◌, ◌⊎◌, inl, inr, ℕ, zero, suc, ◌+◌, ◌-◌, ◌≤◌, ◌<◌, Bool, true, false, cond, ◌||◌, ◌==◌, List, [], ◌∷◌, length, map, Option, Some, None, slice_get, refl, ap, ap₂, ◌∙◌, sym, subst, arith, add-one}
use Rattle.std.proofs.lemmas.Bool.{cases_lt, eq-eqb}
use Rattle.std.proofs.lemmas.Option.{slice_get-get_or}
use Rattle.clr_base.specs.declared.ids.DefId.{DefId}
use Rattle.clr_base.specs.declared.ids.NameId.{NameId}
use Rattle.type_tree.specs.declared.tree.Ty.{Ty}
use Rattle.type_tree.specs.declared.tree.Ty.TheOpen.{Ty-F}
use Rattle.type_tree.specs.declared.tree.Ty.TheVariants as ty
use Rattle.type_tree.specs.declared.tree.Ty.TheViews.{out-Ty}
use Rattle.type_tree.specs.declared.definition.Def.{Def}
use Rattle.type_tree.specs.World.{Facts}
use Rattle.type_tree.specs.Kinds.{is_value_def}
use Rattle.type_pool.specs.declared.nodes.Id.{Id}
use Rattle.type_pool.specs.declared.nodes.Node.{Node}
use Rattle.type_pool.specs.declared.nodes.Node.TheVariants.{Inst, Array, ByRef, Ptr, Var, MVar, Missing, Odd}
use Rattle.type_pool.specs.Trees.{at, at_all, ids_below, tree_of}
use Rattle.field_places.specs.declared.shape.Content.TheVariants.{Plain, Holds}
use Rattle.field_places.specs.declared.shape.Shape.{Shape}
use Rattle.field_places.specs.declared.layout.Layout.{Layout}
use Rattle.field_places.specs.Shapes.{is_shape, are_shapes, is_plain}
use Rattle.field_places.specs.Layouts.{own_part}
use Rattle.field_places.proofs.OwnFacts.{own_part_sound}
use Rattle.field_places.proofs.Packing.{is_from}
use Rattle.field_layout.specs.declared.fields.Fields.{Fields}
use Rattle.field_layout.specs.declared.answer.ShapeAnswer.{ShapeAnswer}
use Rattle.field_layout.specs.declared.answer.ShapeAnswer.TheVariants as answer
use Rattle.field_layout.specs.declared.notes.Note.{Note}
use Rattle.field_layout.specs.declared.level.Level.{Level}
use Rattle.field_layout.specs.declared.level.Level.TheVariants.{Leaf, Struct}
use Rattle.field_layout.specs.Fields.{core_width, width, width_of, field_types, rules_of, given_places}
use Rattle.field_layout.specs.Shapes.{field_shape, field_at, own_shapes, shape_from, value_shape, plain, reference, shape_of, layout_shape, All, SomeDeep, SomeBad}
use Rattle.field_layout.specs.Notes.{Fits, IsFields, own_layout, settled_shapes, IsNote, IsStruct, IsLevel, InstLevel, noted_shape, noted_is_shape, plain_note, reference_note, missing_note}

pub shape_zero : (w : Facts) (t : Ty) → field_shape 0 w t ≡ field_at None w (out-Ty t)
unfolding field_shape
shape_zero w t = refl

pub shape_next : (w : Facts) (t : Ty) (m : ℕ) → field_shape (suc m) w t ≡ field_at (Some (field_shape m w)) w (out-Ty t)
unfolding field_shape
shape_next w t m = refl

-- the same in each room
pub everywhere : (w : Facts) (t : Ty) (n : Note) → n.need ≡ 0 → ((below : Option (Ty → ShapeAnswer)) → field_at below w (out-Ty t) ≡ noted_shape n.shape) → noted_is_shape n.shape ≡ true → IsNote w t n
everywhere w t n none is sound = record {
  enough = λ m h. by m;
  short = λ m h. absurd (omega arith);
  sound = sound;
}
  where
    by : (m : ℕ) → field_shape m w t ≡ noted_shape n.shape
    by zero = shape_zero w t ∙ is None
    by (suc m) = shape_next w t m ∙ is (Some (field_shape m w))

-- a value field without fields
pub one_deep : (w : Facts) (t : Ty) (n : Note) → n.need ≡ 1 → field_at None w (out-Ty t) ≡ answer.Deep → ((inner : Ty → ShapeAnswer) → field_at (Some inner) w (out-Ty t) ≡ noted_shape n.shape) → noted_is_shape n.shape ≡ true → IsNote w t n
one_deep w t n one none is sound = record {
  enough = λ m h. by m (omega arith);
  short = λ m h. let z : m ≡ 0 = omega arith in ap (λ k. field_shape k w t) z ∙ shape_zero w t ∙ none;
  sound = sound;
}
  where
    by : (m : ℕ) → 1 ≤ m → field_shape m w t ≡ noted_shape n.shape
    by zero h = absurd (omega arith)
    by (suc m) h = shape_next w t m ∙ is (field_shape m w)

-- what is built in is a shape
abbrev good : Option ℕ → Bool
good None = true
good (Some n) = noted_is_shape (plain_note 1 n).shape

width_good : (n : ℕ) → good (core_width n) ≡ true
width_good n =
    step (n == 4) 1 _ refl (step (n == 5) 2 _ refl (step (n == 6) 1 _ refl (step (n == 7) 1 _ refl (step (n == 8) 2 _ refl
    (step (n == 9) 2 _ refl (step (n == 10) 4 _ refl (step (n == 11) 4 _ refl (step (n == 12) 8 _ refl (step (n == 13) 8 _ refl
    (step (n == 14) 8 _ refl (step (n == 15) 8 _ refl (step (n == 16) 4 _ refl (step (n == 17) 8 _ refl (step (n == 21) 8 None refl refl))))))))))))))
  where
    step : (b : Bool) (k : ℕ) (rest : Option ℕ) → good (Some k) ≡ true → good rest ≡ true → good (cond b (Some k) rest) ≡ true
    step true k rest h r = h
    step false k rest h r = r

pub width_shape : (w : Facts) (id : DefId) (size : ℕ) → width w id ≡ Some size → noted_is_shape (plain_note 1 size).shape ≡ true
width_shape w id size e = sym (ap good e) ∙ by (slice_get w.defs id.0)
  where
    by : (o : Option Def) → good (width_of id.0 o) ≡ true
    by None = refl
    by (Some d) = file (d.file == 0)
      where
        file : (b : Bool) → good (cond b (core_width id.0) None) ≡ true
        file true = width_good id.0
        file false = refl

pub exists_at : {A : Type 0} (xs : List A) (i : ℕ) → i < length xs → (x : A) × (slice_get xs i ≡ Some x)
exists_at [] i h = absurd (omega arith)
exists_at (x ∷ xs) zero h = (x, refl)
exists_at (x ∷ xs) (suc i) h = exists_at xs i (omega arith)

module _ (w : Facts) (ts : List Ty) (t : Ty) (id : DefId) (args : List Id) (out : out-Ty t ≡ Ty-F.Inst id (at_all ts args)) where
  at_inst : (below : Option (Ty → ShapeAnswer)) → field_at below w (out-Ty t) ≡ field_at below w (Ty-F.Inst id (at_all ts args))
  at_inst below = ap (field_at below w) out

  reference_inst : (below : Option (Ty → ShapeAnswer)) → is_value_def w id ≡ false → field_at below w (Ty-F.Inst id (at_all ts args)) ≡ reference
  reference_inst below not_value = rw not_value refl

  deep_inst : is_value_def w id ≡ true → field_at None w (Ty-F.Inst id (at_all ts args)) ≡ answer.Deep
  deep_inst is_value = rw is_value refl

  value_inst : (inner : Ty → ShapeAnswer) → is_value_def w id ≡ true → field_at (Some inner) w (Ty-F.Inst id (at_all ts args)) ≡ value_shape inner w (at_all ts args) (width w id) (slice_get w.defs id.0)
  value_inst inner is_value = rw is_value refl

  built_in : (inner : Ty → ShapeAnswer) (size : ℕ) (o : Option Def) → value_shape inner w (at_all ts args) (Some size) o ≡ plain size
  built_in inner size None = refl
  built_in inner size (Some d) = refl

  leaf : (n : Note) → InstLevel w id args (Leaf n) → IsNote w t n
  leaf n (inl h) = everywhere w t n (ap (λ x. x.need) h.1)
      (λ below. at_inst below ∙ reference_inst below h.0 ∙ ap (λ x. noted_shape x.shape) (sym h.1)) (ap (λ x. noted_is_shape x.shape) h.1)
  leaf n (inr (inl h)) = one_deep w t n (ap (λ x. x.need) h.1.1) (at_inst None ∙ deep_inst h.0)
      (λ inner. at_inst (Some inner) ∙ value_inst inner h.0 ∙ ap (λ o. value_shape inner w (at_all ts args) o (slice_get w.defs id.0)) h.1.2
      ∙ built_in inner h.1.0 (slice_get w.defs id.0) ∙ ap (λ x. noted_shape x.shape) (sym h.1.1))
      (ap (λ x. noted_is_shape x.shape) h.1.1 ∙ width_shape w id h.1.0 h.1.2)
  leaf n (inr (inr h)) = one_deep w t n (ap (λ x. x.need) h.1) (at_inst None ∙ deep_inst h.0)
      (λ inner. at_inst (Some inner) ∙ value_inst inner h.0 ∙ ap₂ (value_shape inner w (at_all ts args)) h.2 h.3 ∙ ap (λ x. noted_shape x.shape) (sym h.1))
      (ap (λ x. noted_is_shape x.shape) h.1)

  pub struct_level : ids_below (length ts) args ≡ true → is_value_def w id ≡ true → width w id ≡ None → (d : Def) → slice_get w.defs id.0 ≡ Some d → IsStruct w ts t id args d
  struct_level below is_value none d here = record {
    exists = here;
    within = below;
    none = shape_zero w t ∙ at_inst None ∙ deep_inst is_value;
    some = λ m. rw add-one (shape_next w t m ∙ at_inst (Some (field_shape m w)) ∙ value_inst (field_shape m w) is_value
        ∙ ap₂ (value_shape (field_shape m w) w (at_all ts args)) none here);
  }

  pub level_inst : ids_below (length ts) args ≡ true → (level : Level) → InstLevel w id args level → IsLevel w ts t level
  level_inst below (Leaf n) h = leaf n h
  level_inst below (Struct head parts) h =
      let found = exists_at w.defs id.0 h.2 in
      (found.0, subst (λ (i : DefId). IsStruct w ts t i parts found.0) (sym h.3) (subst (λ (l : List Id). IsStruct w ts t id l found.0) (sym h.4) (struct_level below h.0 h.1 found.0 found.1)))

module _ (w : Facts) (ts : List Ty) (t : Ty) where
  pub level_array : (e : Id) → tree_of ts (Array e) ≡ t → IsNote w t reference_note
  level_array e is = everywhere w t reference_note refl (λ below. ap (λ x. field_at below w (out-Ty x)) (sym is) ∙ ap (field_at below w) (ty.outs-Array (at ts e))) refl

  pub level_by_ref : (e : Id) → tree_of ts (ByRef e) ≡ t → IsNote w t (plain_note 0 8)
  level_by_ref e is = everywhere w t (plain_note 0 8) refl (λ below. ap (λ x. field_at below w (out-Ty x)) (sym is) ∙ ap (field_at below w) (ty.outs-ByRef (at ts e))) refl

  pub level_ptr : (e : Id) → tree_of ts (Ptr e) ≡ t → IsNote w t (plain_note 0 8)
  level_ptr e is = everywhere w t (plain_note 0 8) refl (λ below. ap (λ x. field_at below w (out-Ty x)) (sym is) ∙ ap (field_at below w) (ty.outs-Ptr (at ts e))) refl

  pub level_var : (n : ℕ) → tree_of ts (Var n) ≡ t → IsNote w t (plain_note 0 8)
  level_var n is = everywhere w t (plain_note 0 8) refl (λ below. ap (λ x. field_at below w (out-Ty x)) (sym is) ∙ ap (field_at below w) (ty.outs-Var n)) refl

  pub level_mvar : (n : ℕ) → tree_of ts (MVar n) ≡ t → IsNote w t (plain_note 0 8)
  level_mvar n is = everywhere w t (plain_note 0 8) refl (λ below. ap (λ x. field_at below w (out-Ty x)) (sym is) ∙ ap (field_at below w) (ty.outs-MVar n)) refl

  pub level_odd : (n : ℕ) → tree_of ts (Odd n) ≡ t → IsNote w t (plain_note 0 8)
  level_odd n is = everywhere w t (plain_note 0 8) refl (λ below. ap (λ x. field_at below w (out-Ty x)) (sym is) ∙ ap (field_at below w) (ty.outs-Odd n)) refl

  pub level_missing : (name : NameId) (value : Bool) → tree_of ts (Missing name value) ≡ t → value ≡ false → IsNote w t reference_note
  level_missing name value is not_value = everywhere w t reference_note refl
      (λ below. ap (λ x. field_at below w (out-Ty x)) (sym is) ∙ ap (field_at below w) (ty.outs-Missing name value) ∙ ap (λ v. field_at below w (Ty-F.Missing name v)) not_value) refl

  pub level_missing_value : (name : NameId) (value : Bool) → tree_of ts (Missing name value) ≡ t → value ≡ true → IsNote w t (plain_note 1 1)
  level_missing_value name value is is_value = one_deep w t (plain_note 1 1) refl
      (ap (λ x. field_at None w (out-Ty x)) (sym is) ∙ ap (field_at None w) (ty.outs-Missing name value) ∙ ap (λ v. field_at None w (Ty-F.Missing name v)) is_value)
      (λ inner. ap (λ x. field_at (Some inner) w (out-Ty x)) (sym is) ∙ ap (field_at (Some inner) w) (ty.outs-Missing name value) ∙ ap (λ v. field_at (Some inner) w (Ty-F.Missing name v)) is_value) refl

  pub level_missing_any : (name : NameId) (value : Bool) (n : Note) → tree_of ts (Missing name value) ≡ t → n ≡ missing_note value → IsNote w t n
  level_missing_any name true n is e = subst (λ (x : Note). IsNote w t x) (sym e) (level_missing_value name true is refl)
  level_missing_any name false n is e = subst (λ (x : Note). IsNote w t x) (sym e) (level_missing name false is refl)

-- ---- a value type whose fields are known

-- a layout of a value type is what a field of it takes
laid_shape : (w : Facts) (d : Def) (f : Fields) (l : Layout) → are_shapes f.shapes ≡ true → own_layout true w d 0 f ≡ Some l → is_shape (layout_shape l) ≡ true
laid_shape w d f l sound e = by f.good e
  where
    shaped : own_part (rules_of true d) 0 (given_places w d) f.shapes ≡ Some l → is_shape (layout_shape l) ≡ true
    shaped e =
        let k = own_part_sound (rules_of true d) 0 f.shapes sound (given_places w d) l e in
        is_from (layout_shape l) (record { some = k.some refl; few = k.few; aligned = k.aligned; align_few = k.align_few }) (refs l.has_refs k.refs_align)
      where
        refs : (b : Bool) → (b ≡ true → l.align ≡ 8) → (is_plain (cond b Holds Plain) || l.align == 8) ≡ true
        refs true h = eq-eqb l.align 8 (h refl)
        refs false h = refl

    by : (g : Bool) → cond g (own_part (rules_of true d) 0 (given_places w d) f.shapes) None ≡ Some l → is_shape (layout_shape l) ≡ true
    by true e = shaped e
    by false e = absurd (cc)

pub noted_sound : (w : Facts) (d : Def) (f : Fields) (shape : Option Shape) → are_shapes f.shapes ≡ true → noted_shape shape ≡ shape_of (own_layout true w d 0 f) → noted_is_shape shape ≡ true
noted_sound w d f shape sound e = by (own_layout true w d 0 f) shape e (λ l h. laid_shape w d f l sound h)
  where
    by : (o : Option Layout) (shape : Option Shape) → noted_shape shape ≡ shape_of o → ((l : Layout) → o ≡ Some l → is_shape (layout_shape l) ≡ true) → noted_is_shape shape ≡ true
    by None None e h = refl
    by None (Some s) e h = absurd (cc)
    by (Some l) None e h = absurd (cc)
    by (Some l) (Some s) e h = let same : s ≡ layout_shape l = cc in ap is_shape same ∙ h l refl

from_settled : (w : Facts) (d : Def) (f : Fields) → shape_from w d (settled_shapes f) ≡ shape_of (own_layout true w d 0 f)
from_settled w d f = by f.good
  where
    by : (g : Bool) → shape_from w d (cond g (All f.shapes) SomeBad) ≡ shape_of (cond g (own_part (rules_of true d) 0 (given_places w d) f.shapes) None)
    by true = refl
    by false = refl

module _ (w : Facts) (ts : List Ty) (t : Ty) (id : DefId) (args : List Id) (d : Def) (is : IsStruct w ts t id args d) (room : ℕ) where
  pub struct_found : (f : Fields) (shape : Option Shape) → IsFields w (field_types w d (at_all ts args)) room f → noted_shape shape ≡ shape_of (own_layout true w d 0 f)
      → Fits w t (room + 1) (record { need = f.need + 1; shape = shape })
  struct_found f shape fs e = record {
    note = record {
      enough = λ m h.
          let k : ℕ = m - 1 in
          let same : m ≡ k + 1 = omega arith in
          ap (λ n. field_shape n w t) same ∙ is.some k ∙ ap (shape_from w d) (fs.enough k (omega arith)) ∙ from_settled w d f ∙ sym e;
      short = λ m h. elim (cases_lt 0 m) [
        | inl some ↦
            let k : ℕ = m - 1 in
            let same : m ≡ k + 1 = omega arith in
            ap (λ n. field_shape n w t) same ∙ is.some k ∙ ap (shape_from w d) (fs.short k (omega arith))
        | inr none ↦ let same : m ≡ 0 = omega arith in ap (λ n. field_shape n w t) same ∙ is.none
      ];
      sound = noted_sound w d f shape fs.sound e;
    };
    fits = let a = fs.fits in omega arith;
  }

  pub struct_deep : own_shapes room w d (at_all ts args) ≡ SomeDeep → field_shape (room + 1) w t ≡ answer.Deep
  struct_deep e = is.some room ∙ ap (shape_from w d) e
