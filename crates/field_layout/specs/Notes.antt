-- What a walk over the types of fields has found, and how it holds in every room.
use Rattle.std.specs.Prelude.{◌≡◌, ◌⊎◌, false, ℕ, ◌+◌, ◌≤◌, ◌<◌, nat_eq, nat_le, Bool, true, List, length, map, max, [], ◌∷◌, ◌++◌, Option, None, Some, slice_get, if◌then◌else◌}
use Rattle.std.specs.declared.hash.FoldHasher.{FoldHasher}
use Rattle.std.specs.declared.hash.BuildHasherDefault.{BuildHasherDefault}
use Rattle.std.specs.HashMap.{get, HashMap, Updates}
use Rattle.type_tree.specs.declared.tree.Ty.{Ty}
use Rattle.type_tree.specs.declared.tree.Ty.TheOpen.{Ty-F}
use Rattle.type_tree.specs.declared.tree.Ty.TheViews.{out-Ty}
use Rattle.type_tree.specs.declared.definition.Def.{Def}
use Rattle.field_layout.specs.declared.answer.LayoutAnswer.{LayoutAnswer}
use Rattle.field_layout.specs.declared.answer.LayoutAnswer.TheVariants as layout
use Rattle.type_tree.specs.World.{Facts}
use Rattle.clr_base.specs.declared.ids.DefId.{DefId}
use Rattle.type_pool.specs.declared.nodes.Id.{Id}
use Rattle.type_pool.specs.declared.nodes.Node.{Node}
use Rattle.type_pool.specs.declared.nodes.Node.TheVariants as node
use Rattle.field_layout.specs.Layouts.{fixed}
use Rattle.type_pool.specs.Trees.{at, at_all, ids_below}
use Rattle.field_places.specs.declared.shape.Shape.{Shape}
use Rattle.field_places.specs.Shapes.{is_shape, are_shapes}
use Rattle.field_layout.specs.declared.answer.ShapeAnswer.{ShapeAnswer}
use Rattle.field_layout.specs.declared.answer.ShapeAnswer.TheVariants as answer
use Rattle.field_layout.specs.declared.notes.Note.{Note}
use Rattle.field_layout.specs.declared.level.Level.{Level}
use Rattle.field_layout.specs.declared.level.Level.TheVariants.{Leaf, Struct}
use Rattle.field_layout.specs.declared.notes.Found.{Found}
use Rattle.field_layout.specs.declared.notes.Found.TheVariants.{Settled, Deep}
use Rattle.field_layout.specs.declared.fields.Fields.{Fields}
use Rattle.field_layout.specs.declared.fields.FieldsFound.{FieldsFound}
use Rattle.field_layout.specs.declared.fields.FieldsFound.TheVariants as fields
use Rattle.field_layout.specs.Shapes.{Shapes, All, SomeDeep, SomeBad, field_shape, own_shapes, together, shape_from}
use Rattle.field_layout.specs.Fields.{rules_of, given_places, own_fields, width}
use Rattle.type_tree.specs.Kinds.{is_value_def}
use Rattle.field_places.specs.declared.shape.Content.TheVariants.{Plain, Reference}
use Rattle.field_places.specs.declared.layout.Layout.{Layout}
use Rattle.field_places.specs.Layouts.{own_part}

abbrev pub noted_shape : Option Shape → ShapeAnswer
noted_shape None = answer.Bad
noted_shape (Some s) = answer.Takes s

abbrev pub noted_is_shape : Option Shape → Bool
noted_is_shape None = true
noted_is_shape (Some s) = is_shape s

-- a field of this type takes this in each room from the depth needed, and is Deep in each smaller one
pub record IsNote (w : Facts) (t : Ty) (n : Note) : Type 0 where
  pub enough : (m : ℕ) → n.need ≤ m → field_shape m w t ≡ noted_shape n.shape
  pub short : (m : ℕ) → m < n.need → field_shape m w t ≡ answer.Deep
  pub sound : noted_is_shape n.shape ≡ true

-- what is found in one room
pub record Fits (w : Facts) (t : Ty) (room : ℕ) (n : Note) : Type 0 where
  pub note : IsNote w t n
  pub fits : n.need ≤ room

abbrev pub IsFound : Facts → Ty → ℕ → Found → Type 0
IsFound w t room (Settled n) = Fits w t room n
IsFound w t room Deep = field_shape room w t ≡ answer.Deep

-- notes by the numbers of trees
abbrev pub NotesOf : Type 0 → Type 0
NotesOf N = HashMap ℕ N (BuildHasherDefault FoldHasher)

-- a note of the k-th tree, which is true of it
pub record IsNoteOf {N : Type 0} (P : Ty → N → Type 0) (ts : List Ty) (k : ℕ) (n : N) : Type 0 where
  pub of_pool : k < length ts
  pub note : P (at ts (record { 0 = k })) n

abbrev pub AllOf : {N : Type 0} → (Ty → N → Type 0) → List Ty → NotesOf N → Type 0
AllOf {N = N} P ts notes = (k : ℕ) (n : N) → get nat_eq notes k ≡ Some n → IsNoteOf P ts k n

-- for each tree that is settled, what a field of it takes
abbrev pub ShapeNotes : Type 0
ShapeNotes = NotesOf Note

abbrev pub AllNoted : Facts → List Ty → ShapeNotes → Type 0
AllNoted w ts notes = AllOf (IsNote w) ts notes

-- a settled tree is noted
abbrev pub Kept : ShapeNotes → ShapeNotes → ℕ → Found → Type 0
Kept old new k (Settled n) = Updates nat_eq old new k (Some n)
Kept old new k Deep = new ≡ old

abbrev pub in_room : Note → ℕ → Found
in_room n room = if nat_le n.need room then Settled n else Deep

-- ---- one level

-- a value type that isn't built in: the fields of its definition, with its arguments put in
pub record IsStruct (w : Facts) (ts : List Ty) (t : Ty) (id : DefId) (args : List Id) (d : Def) : Type 0 where
  pub exists : slice_get w.defs id.0 ≡ Some d
  pub within : ids_below (length ts) args ≡ true
  pub none : field_shape 0 w t ≡ answer.Deep
  pub some : (m : ℕ) → field_shape (m + 1) w t ≡ shape_from w d (own_shapes m w d (at_all ts args))

-- either what it takes, or its definition and arguments
abbrev pub IsLevel : Facts → List Ty → Ty → Level → Type 0
IsLevel w ts t (Leaf n) = IsNote w t n
IsLevel w ts t (Struct id args) = (d : Def) × IsStruct w ts t id args d

-- ---- several fields

abbrev pub settled_shapes : Fields → Shapes
settled_shapes f = if f.good then All f.shapes else SomeBad

-- fields of these types take this in each room from the depth needed, and are Deep in each smaller one
pub record IsFields (w : Facts) (us : List Ty) (room : ℕ) (f : Fields) : Type 0 where
  pub enough : (m : ℕ) → f.need ≤ m → together (map (field_shape m w) us) ≡ settled_shapes f
  pub short : (m : ℕ) → m < f.need → together (map (field_shape m w) us) ≡ SomeDeep
  pub sound : are_shapes f.shapes ≡ true
  pub as_long : f.good ≡ true → length f.shapes ≡ length us
  pub fits : f.need ≤ room

abbrev pub TypesAre : Facts → List Ty → ℕ → FieldsFound → Type 0
TypesAre w us room (fields.Settled f) = IsFields w us room f
TypesAre w us room fields.Deep = together (map (field_shape room w) us) ≡ SomeDeep

-- these fields and one more
abbrev pub added : Fields → Note → Fields
added f n = put f n.shape
  where
    put : Fields → Option Shape → Fields
    put f None = record { need = max f.need n.need; good = false; shapes = f.shapes }
    put f (Some s) = record { need = max f.need n.need; good = f.good; shapes = f.shapes ++ s ∷ [] }

abbrev pub found_shapes : FieldsFound → Shapes
found_shapes (fields.Settled f) = settled_shapes f
found_shapes fields.Deep = SomeDeep

-- the shapes are those of a definition's own fields
abbrev pub FoundSound : Facts → Def → FieldsFound → Type 0
FoundSound w d (fields.Settled f) = (are_shapes f.shapes ≡ true) × (f.good ≡ true → length f.shapes ≡ length (own_fields w d))
FoundSound w d fields.Deep = Unit {0}

-- the own part that settled fields have
abbrev pub own_layout : Bool → Facts → Def → ℕ → Fields → Option Layout
own_layout value w d begin f = if f.good then own_part (rules_of value d) begin (given_places w d) f.shapes else None

-- ---- leaves

abbrev pub plain_note : ℕ → ℕ → Note
plain_note need size = record { need = need; shape = Some (record { size = size; align = size; content = Plain }) }

abbrev pub reference_note : Note
reference_note = record { need = 0; shape = Some (record { size = 8; align = 8; content = Reference }) }

-- a missing value type takes 1 byte
abbrev pub missing_note : Bool → Note
missing_note value = if value then plain_note 1 1 else reference_note

-- what an instantiation with these arguments is found to be
abbrev pub InstLevel : Facts → DefId → List Id → Level → Type 0
InstLevel w id args (Leaf n) =
    ((is_value_def w id ≡ false) × (n ≡ reference_note))
    ⊎ ((is_value_def w id ≡ true) × ((size : ℕ) × (n ≡ plain_note 1 size) × (width w id ≡ Some size)))
    ⊎ ((is_value_def w id ≡ true) × (n ≡ plain_note 1 1) × (width w id ≡ None) × (slice_get w.defs id.0 ≡ None))
InstLevel w id args (Struct head parts) =
    (is_value_def w id ≡ true) × (width w id ≡ None) × (id.0 < length w.defs) × (head ≡ id) × (parts ≡ args)

-- ---- heads and answers

-- an instantiation of a definition that exists, with its arguments; None for every other tree
abbrev pub IsHead : Facts → List Ty → Ty → Option (DefId × List Id) → Type 0
IsHead w ts t (Some h) =
    (out-Ty t ≡ Ty-F.Inst h.0 (at_all ts h.1)) × (h.0.0 < length w.defs) × (ids_below (length ts) h.1 ≡ true)
IsHead w ts t None = (id : DefId) (args : List Ty) → out-Ty t ≡ Ty-F.Inst id args → slice_get w.defs id.0 ≡ None

-- no end passes the limit
abbrev pub EndsWithin : LayoutAnswer → Type 0
EndsWithin (layout.Laid l) = l.end ≤ 1048576
EndsWithin layout.Deep = Unit {0}
EndsWithin layout.Bad = Unit {0}

-- what a level is that has no definition
abbrev pub leaf_of : Node → LayoutAnswer
leaf_of (node.Array e) = fixed 16 8
leaf_of (node.Missing name value) = if value then fixed 1 1 else fixed 8 8
leaf_of _ = fixed 8 8
