-- What a walk over the types of fields has found.
use Rattle.std.proofs.Common.{◌≡◌, ℕ, zero, suc, ◌+◌, ◌-◌, ◌≤◌, ◌<◌, max, nat_eq, nat_le, Bool, true, false, cond, not, ◌&&◌, ◌||◌, inl, inr, List, [], ◌∷◌, ◌++◌, length, map, take, drop, get_or, Option, Some, None, slice_get, refl, ap, ap₂, ◌∙◌, sym, subst, arith, add-one, eqb-true, length-append, append-nil, drop-cons}
use Rattle.std.proofs.Math.Seq.{take-suc}
use Rattle.std.proofs.lemmas.Bool.{cases_Bool, cases_lt, and_parts, leb-true, le-leb}
use Rattle.std.proofs.lemmas.List.{map-append}
use Rattle.std.proofs.lemmas.List.Folds.{list_all-append}
use Rattle.std.specs.HashMap.{get, Updates}
use Rattle.std.specs.List.{list_any, list_all}
use Rattle.type_tree.specs.declared.tree.Ty.{Ty}
use Rattle.type_tree.specs.declared.definition.Def.{Def}
use Rattle.type_tree.specs.World.{Facts}
use Rattle.type_pool.specs.declared.nodes.Id.{Id}
use Rattle.type_pool.specs.Trees.{at, at_all, ids_below, Grows}
use Rattle.type_pool.proofs.JobLemmas.{grows_refl, grows_trans, grown_length, at-grown, at_all-grown, below_at, below_next}
use Rattle.field_places.specs.declared.shape.Shape.{Shape}
use Rattle.field_places.specs.declared.layout.Layout.{Layout}
use Rattle.field_places.specs.Shapes.{is_shape, are_shapes}
use Rattle.field_layout.specs.declared.answer.ShapeAnswer.{ShapeAnswer}
use Rattle.field_layout.specs.declared.answer.ShapeAnswer.TheVariants as answer
use Rattle.field_layout.specs.declared.notes.Note.{Note}
use Rattle.field_layout.specs.declared.notes.Found.{Found}
use Rattle.field_layout.specs.declared.notes.Found.TheVariants.{Settled, Deep}
use Rattle.field_layout.specs.declared.fields.Fields.{Fields}
use Rattle.field_layout.specs.Shapes.{Shapes, All, SomeDeep, SomeBad, field_shape, together, is_deep, is_bad, shapes_of}
use Rattle.field_layout.specs.Notes.{ShapeNotes, NotesOf, AllOf, IsNote, IsNoteOf, AllNoted, IsFound, Fits, Kept, in_room, noted_shape, noted_is_shape, settled_shapes, IsFields, TypesAre, added}

-- ---- notes

pub noted-grown : {N : Type 0} (P : Ty → N → Type 0) (ts us : List Ty) → Grows ts us → (notes : NotesOf N) → AllOf P ts notes → AllOf P us notes
noted-grown P ts us g notes all k n here =
    let was = all k n here in
    let longer = grown_length ts us g in
    record {
      of_pool = let o = was.of_pool in omega arith;
      note = subst (λ (t : Ty). P t n) (sym (at-grown ts us g (record { 0 = k }) was.of_pool)) was.note;
    }

pub noted_more : {N : Type 0} (P : Ty → N → Type 0) (ts : List Ty) (old new : NotesOf N) (k : ℕ) (n : N) → AllOf P ts old → IsNoteOf P ts k n → Updates nat_eq old new k (Some n) → AllOf P ts new
noted_more {N = N} P ts old new k n all is updates q m here = elim (cases_Bool (nat_eq k q)) [
  | inl e ↦ let same : k ≡ q = eqb-true k q e in
      let value : n ≡ m = let s : Some n ≡ Some m = sym (ap (λ b. cond b (Some n) (get nat_eq old q)) e) ∙ sym (updates.0 q) ∙ here in cc in
      subst (λ (j : ℕ). IsNoteOf P ts j m) same (subst (λ (v : N). IsNoteOf P ts k v) value is)
  | inr e ↦ all q m (sym (ap (λ b. cond b (Some n) (get nat_eq old q)) e) ∙ sym (updates.0 q) ∙ here)
]

pub kept : (w : Facts) (ts : List Ty) (old new : ShapeNotes) (id : Id) (room : ℕ) (found : Found) → AllNoted w ts old → id.0 < length ts → IsFound w (at ts id) room found → Kept old new id.0 found → AllNoted w ts new
kept w ts old new id room (Settled n) all within is k = noted_more (IsNote w) ts old new id.0 n all (record { of_pool = within; note = is.note }) k
kept w ts old new id room Deep all within is k = subst (λ (m : ShapeNotes). AllNoted w ts m) (sym k) all

pub found_in_room : (w : Facts) (t : Ty) (n : Note) (room : ℕ) → IsNote w t n → IsFound w t room (in_room n room)
found_in_room w t n room is = elim (cases_Bool (nat_le n.need room)) [
  | inl e ↦ rw e (record { note = is; fits = leb-true n.need room e })
  | inr e ↦ rw e (is.short room (elim (cases_lt room n.need) [ inl lt ↦ lt | inr ge ↦ absurd (let y = le-leb n.need room ge in let z : true ≡ false = sym y ∙ e in cc) ]))
]

pub found-grown : (w : Facts) (ts us : List Ty) (g : Grows ts us) (id : Id) (room : ℕ) (found : Found) → id.0 < length ts → IsFound w (at ts id) room found → IsFound w (at us id) room found
found-grown w ts us g id room found within is = subst (λ (t : Ty). IsFound w t room found) (sym (at-grown ts us g id within)) is

-- ---- several fields

-- what is found of some fields, in each room
pub record ShapesAre (w : Facts) (us : List Ty) (room : ℕ) (f : Fields) : Type 0 where
  pub shallow : (m : ℕ) → f.need ≤ m → list_any is_deep (map (field_shape m w) us) ≡ false
  pub bad : (m : ℕ) → f.need ≤ m → list_any is_bad (map (field_shape m w) us) ≡ not f.good
  pub takes : (m : ℕ) → f.need ≤ m → shapes_of (map (field_shape m w) us) ≡ f.shapes
  pub short : (m : ℕ) → m < f.need → list_any is_deep (map (field_shape m w) us) ≡ true
  pub sound : are_shapes f.shapes ≡ true
  pub as_long : f.good ≡ true → length f.shapes ≡ length us
  pub fits : f.need ≤ room

any-append : (p : ShapeAnswer → Bool) (xs : List ShapeAnswer) (y : ShapeAnswer) → list_any p (xs ++ y ∷ []) ≡ (list_any p xs || p y)
any-append p [] y = or_false (p y)
  where
    or_false : (b : Bool) → (b || false) ≡ (false || b)
    or_false true = refl
    or_false false = refl
any-append p (x ∷ xs) y = ap (λ b. p x || b) (any-append p xs y) ∙ or_assoc (p x) (list_any p xs) (p y)
  where
    or_assoc : (a b c : Bool) → (a || (b || c)) ≡ ((a || b) || c)
    or_assoc true b c = refl
    or_assoc false b c = refl

takes-append : (xs : List ShapeAnswer) (y : ShapeAnswer) → shapes_of (xs ++ y ∷ []) ≡ shapes_of xs ++ shapes_of (y ∷ [])
takes-append [] y = refl
takes-append (answer.Takes s ∷ xs) y = ap (λ l. s ∷ l) (takes-append xs y)
takes-append (answer.Deep ∷ xs) y = takes-append xs y
takes-append (answer.Bad ∷ xs) y = takes-append xs y

or_true : (a b : Bool) → b ≡ true → (a || b) ≡ true
or_true true b h = refl
or_true false b h = h

module _ (w : Facts) (us : List Ty) (room : ℕ) (f : Fields) (was : ShapesAre w us room f) (t : Ty) (n : Note) (is : Fits w t room n) where
  split : (m : ℕ) → map (field_shape m w) (us ++ t ∷ []) ≡ map (field_shape m w) us ++ field_shape m w t ∷ []
  split m = map-append (field_shape m w) us (t ∷ [])

  deep_too : (m : ℕ) (a : ShapeAnswer) → field_shape m w t ≡ a → list_any is_deep (map (field_shape m w) (us ++ t ∷ [])) ≡ (list_any is_deep (map (field_shape m w) us) || is_deep a)
  deep_too m a e = ap (list_any is_deep) (split m) ∙ any-append is_deep (map (field_shape m w) us) (field_shape m w t) ∙ ap (λ x. list_any is_deep (map (field_shape m w) us) || is_deep x) e

  bad_too : (m : ℕ) (a : ShapeAnswer) → field_shape m w t ≡ a → list_any is_bad (map (field_shape m w) (us ++ t ∷ [])) ≡ (list_any is_bad (map (field_shape m w) us) || is_bad a)
  bad_too m a e = ap (list_any is_bad) (split m) ∙ any-append is_bad (map (field_shape m w) us) (field_shape m w t) ∙ ap (λ x. list_any is_bad (map (field_shape m w) us) || is_bad x) e

  takes_too : (m : ℕ) (a : ShapeAnswer) → field_shape m w t ≡ a → shapes_of (map (field_shape m w) (us ++ t ∷ [])) ≡ shapes_of (map (field_shape m w) us) ++ shapes_of (a ∷ [])
  takes_too m a e = ap shapes_of (split m) ∙ takes-append (map (field_shape m w) us) (field_shape m w t) ∙ ap (λ x. shapes_of (map (field_shape m w) us) ++ shapes_of (x ∷ [])) e

  short_too : (need : ℕ) → need ≡ max f.need n.need → (m : ℕ) → m < need → list_any is_deep (map (field_shape m w) (us ++ t ∷ [])) ≡ true
  short_too need e m h = elim (cases_lt m f.need) [
    | inl lt ↦ deep_too m (field_shape m w t) refl ∙ ap (λ b. b || is_deep (field_shape m w t)) (was.short m lt)
    | inr ge ↦ deep_too m answer.Deep (is.note.short m (omega arith)) ∙ or_true (list_any is_deep (map (field_shape m w) us)) true refl
  ]

or_no : (a : Bool) → (a || false) ≡ a
or_no true = refl
or_no false = refl

pub one_more_good : (w : Facts) (us : List Ty) (room need : ℕ) (good : Bool) (shapes : List Shape) → ShapesAre w us room (record { need = need; good = good; shapes = shapes })
    → (t : Ty) (depth : ℕ) (s : Shape) → Fits w t room (record { need = depth; shape = Some s }) → ShapesAre w (us ++ t ∷ []) room (record { need = max need depth; good = good; shapes = shapes ++ s ∷ [] })
one_more_good w us room need good shapes was t depth s is =
    let f : Fields = record { need = need; good = good; shapes = shapes } in
    let n : Note = record { need = depth; shape = Some s } in
    record {
      shallow = λ m h. deep_too w us room f was t n is m (answer.Takes s) (is.note.enough m (omega arith)) ∙ or_no (list_any is_deep (map (field_shape m w) us)) ∙ was.shallow m (omega arith);
      bad = λ m h. bad_too w us room f was t n is m (answer.Takes s) (is.note.enough m (omega arith)) ∙ or_no (list_any is_bad (map (field_shape m w) us)) ∙ was.bad m (omega arith);
      takes = λ m h. takes_too w us room f was t n is m (answer.Takes s) (is.note.enough m (omega arith)) ∙ ap (λ l. l ++ s ∷ []) (was.takes m (omega arith));
      short = short_too w us room f was t n is (max need depth) refl;
      sound = list_all-append is_shape shapes (s ∷ []) ∙ ap₂ ◌&&◌ was.sound (ap (λ b. b && true) is.note.sound);
      as_long = λ g. length-append shapes (s ∷ []) ∙ ap (λ k. k + 1) (was.as_long g) ∙ sym (length-append us (t ∷ []));
      fits = let a = was.fits in let b = is.fits in omega arith;
    }

pub one_more_bad : (w : Facts) (us : List Ty) (room need : ℕ) (good : Bool) (shapes : List Shape) → ShapesAre w us room (record { need = need; good = good; shapes = shapes })
    → (t : Ty) (depth : ℕ) → Fits w t room (record { need = depth; shape = None }) → ShapesAre w (us ++ t ∷ []) room (record { need = max need depth; good = false; shapes = shapes })
one_more_bad w us room need good shapes was t depth is =
    let f : Fields = record { need = need; good = good; shapes = shapes } in
    let n : Note = record { need = depth; shape = None } in
    record {
      shallow = λ m h. deep_too w us room f was t n is m answer.Bad (is.note.enough m (omega arith)) ∙ or_no (list_any is_deep (map (field_shape m w) us)) ∙ was.shallow m (omega arith);
      bad = λ m h. bad_too w us room f was t n is m answer.Bad (is.note.enough m (omega arith)) ∙ or_true (list_any is_bad (map (field_shape m w) us)) true refl;
      takes = λ m h. takes_too w us room f was t n is m answer.Bad (is.note.enough m (omega arith)) ∙ append-nil (shapes_of (map (field_shape m w) us)) ∙ was.takes m (omega arith);
      short = short_too w us room f was t n is (max need depth) refl;
      sound = was.sound;
      as_long = λ g. absurd (cc);
      fits = let a = was.fits in let b = is.fits in omega arith;
    }

pub one_more : (w : Facts) (us : List Ty) (room : ℕ) (f : Fields) → ShapesAre w us room f → (t : Ty) (depth : ℕ) (shape : Option Shape) → Fits w t room (record { need = depth; shape = shape })
    → ShapesAre w (us ++ t ∷ []) room (added f (record { need = depth; shape = shape }))
one_more w us room f was t depth None is = one_more_bad w us room f.need f.good f.shapes was t depth is
one_more w us room f was t depth (Some s) is = one_more_good w us room f.need f.good f.shapes was t depth s is

pub no_shapes : (w : Facts) (room : ℕ) → ShapesAre w [] room (record { need = 0; good = true; shapes = [] })
no_shapes w room = record {
  shallow = λ m h. refl;
  bad = λ m h. refl;
  takes = λ m h. refl;
  short = λ m h. absurd (omega arith);
  sound = refl;
  as_long = λ g. refl;
  fits = omega arith;
}

pub all_shapes : (w : Facts) (us : List Ty) (room need : ℕ) (good : Bool) (shapes : List Shape) → ShapesAre w us room (record { need = need; good = good; shapes = shapes })
    → IsFields w us room (record { need = need; good = good; shapes = shapes })
all_shapes w us room need good shapes are = record {
  enough = λ m h. rw (are.shallow m h, are.bad m h, are.takes m h) (both good);
  short = λ m h. rw (are.short m h) refl;
  sound = are.sound;
  as_long = are.as_long;
  fits = are.fits;
}
  where
    both : (g : Bool) → cond (not g) SomeBad (All shapes) ≡ cond g (All shapes) SomeBad
    both true = refl
    both false = refl

-- ---- the loop

pub record Shaping (w : Facts) (ts0 : List Ty) (ids : List Id) (room i : ℕ) (ts : List Ty) (notes : ShapeNotes) (f : Fields) : Type 0 where
  pub below : ids_below (length ts0) (drop i ids) ≡ true
  pub grows : Grows ts0 ts
  pub noted : AllNoted w ts notes
  pub shapes : ShapesAre w (at_all ts0 (take i ids)) room f

any_deep : (f : Ty → ShapeAnswer) (ts : List Ty) (ids : List Id) (i : ℕ) (d : Id) → i < length ids → f (at ts (get_or ids i d)) ≡ answer.Deep → list_any is_deep (map f (at_all ts ids)) ≡ true
any_deep f ts [] i d h e = absurd (omega arith)
any_deep f ts (x ∷ xs) zero d h e = ap (λ a. is_deep a || list_any is_deep (map f (at_all ts xs))) e
any_deep f ts (x ∷ xs) (suc i) d h e = or_true (is_deep (f (at ts x))) (list_any is_deep (map f (at_all ts xs))) (any_deep f ts xs i d (omega arith) e)

pub stops_deep : (w : Facts) (ts : List Ty) (ids : List Id) (room i : ℕ) (d : Id) → i < length ids → field_shape room w (at ts (get_or ids i d)) ≡ answer.Deep → together (map (field_shape room w) (at_all ts ids)) ≡ SomeDeep
stops_deep w ts ids room i d h e = rw (any_deep (field_shape room w) ts ids i d h e) refl

pub shaping_first : (w : Facts) (ts0 : List Ty) (ids : List Id) (room : ℕ) (notes : ShapeNotes) → ids_below (length ts0) ids ≡ true → AllNoted w ts0 notes → Shaping w ts0 ids room 0 ts0 notes (record { need = 0; good = true; shapes = [] })
shaping_first w ts0 ids room notes below all = record {
  below = below;
  grows = grows_refl ts0;
  noted = all;
  shapes = no_shapes w room;
}

module _ (w : Facts) (ts0 : List Ty) (ids : List Id) (room i : ℕ) (ts : List Ty) (notes : ShapeNotes) (f : Fields) (was : Shaping w ts0 ids room i ts notes f) (inside : i < length ids) (d : Id) where
  pub here_below : (get_or ids i d).0 < length ts0
  here_below = below_at (length ts0) ids i d inside was.below

  pub here_now : (get_or ids i d).0 < length ts
  here_now = let a = here_below in let g = grown_length ts0 ts was.grows in omega arith

  pub here_same : at ts (get_or ids i d) ≡ at ts0 (get_or ids i d)
  here_same = at-grown ts0 ts was.grows (get_or ids i d) here_below

  pub shaping_next : (us : List Ty) (new : ShapeNotes) (depth : ℕ) (shape : Option Shape) (g : Fields) → Grows ts us → AllNoted w us new → Fits w (at ts (get_or ids i d)) room (record { need = depth; shape = shape })
      → g ≡ added f (record { need = depth; shape = shape }) → Shaping w ts0 ids room (i + 1) us new g
  shaping_next us new depth shape g grows all is e =
      let there : Fits w (at ts0 (get_or ids i d)) room (record { need = depth; shape = shape }) = subst (λ (t : Ty). Fits w t room (record { need = depth; shape = shape })) here_same is in
      let row : at_all ts0 (take (i + 1) ids) ≡ at_all ts0 (take i ids) ++ at ts0 (get_or ids i d) ∷ [] =
      ap (at_all ts0) (rw add-one (take-suc ids i d inside)) ∙ map-append (at ts0) (take i ids) (get_or ids i d ∷ []) in
      record {
        below = below_next (length ts0) ids i d inside was.below;
        grows = grows_trans ts0 ts us was.grows grows;
        noted = all;
        shapes = rw (row, e) (one_more w (at_all ts0 (take i ids)) room f was.shapes (at ts0 (get_or ids i d)) depth shape there);
      }
