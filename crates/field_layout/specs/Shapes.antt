-- What a field takes.
use Rattle.std.specs.Prelude.{ℕ, zero, suc, Bool, true, false, ◌||◌, if◌then◌else◌, List, [], ◌∷◌, map, Option, None, Some, slice_get}
use Rattle.std.specs.List.{list_any}
use Rattle.clr_base.specs.declared.ids.DefId.{DefId}
use Rattle.type_tree.specs.declared.tree.Ty.{Ty}
use Rattle.type_tree.specs.declared.tree.Ty.TheOpen.{Ty-F}
use Rattle.type_tree.specs.declared.tree.Ty.TheViews.{out-Ty}
use Rattle.type_tree.specs.declared.definition.Def.{Def}
use Rattle.type_tree.specs.World.{Facts}
use Rattle.type_tree.specs.Kinds.{is_value_def}
use Rattle.field_places.specs.declared.shape.Content.TheVariants.{Plain, Holds, Reference}
use Rattle.field_places.specs.declared.shape.Shape.{Shape}
use Rattle.field_places.specs.declared.layout.Layout.{Layout}
use Rattle.field_places.specs.Layouts.{own_part}
use Rattle.field_layout.specs.declared.answer.ShapeAnswer.{ShapeAnswer}
use Rattle.field_layout.specs.declared.answer.ShapeAnswer.TheVariants.{Takes, Deep, Bad}
use Rattle.field_layout.specs.Fields.{field_types, given_places, rules_of, width}

-- ---- several fields

abbrev pub is_deep : ShapeAnswer → Bool
is_deep Deep = true
is_deep _ = false

abbrev pub is_bad : ShapeAnswer → Bool
is_bad Bad = true
is_bad _ = false

abbrev pub shapes_of : List ShapeAnswer → List Shape
shapes_of [] = []
shapes_of (Takes s ∷ more) = s ∷ shapes_of more
shapes_of (Deep ∷ more) = shapes_of more
shapes_of (Bad ∷ more) = shapes_of more

pub data Shapes : Type 0 where
  All : List Shape → Shapes
  SomeDeep : Shapes
  SomeBad : Shapes

-- Deep where any is, else Bad where any is, else all shapes
abbrev pub together : List ShapeAnswer → Shapes
together answers =
    if list_any is_deep answers then SomeDeep else if list_any is_bad answers then SomeBad else All (shapes_of answers)

-- ---- one field

-- a built-in value, and whatever is no value type and no reference
abbrev pub plain : ℕ → ShapeAnswer
plain n = Takes (record { size = n; align = n; content = Plain })

abbrev pub reference : ShapeAnswer
reference = Takes (record { size = 8; align = 8; content = Reference })

-- a field of a value type takes what the value type does
abbrev pub layout_shape : Layout → Shape
layout_shape l = record { size = l.size; align = l.align; content = if l.has_refs then Holds else Plain }

abbrev pub shape_of : Option Layout → ShapeAnswer
shape_of None = Bad
shape_of (Some l) = Takes (layout_shape l)

abbrev pub shape_from : Facts → Def → Shapes → ShapeAnswer
shape_from w d SomeDeep = Deep
shape_from w d SomeBad = Bad
shape_from w d (All ss) = shape_of (own_part (rules_of true d) 0 (given_places w d) ss)

-- a value type, where `inner` tells what its fields take
abbrev pub value_shape : (Ty → ShapeAnswer) → Facts → List Ty → Option ℕ → Option Def → ShapeAnswer
value_shape inner w args (Some n) d = plain n
value_shape inner w args None None = plain 1
value_shape inner w args None (Some d) = shape_from w d (together (map inner (field_types w d args)))

-- one level; `below` tells what the fields of a value type take, and there is none where there is no room
abbrev pub field_at : Option (Ty → ShapeAnswer) → Facts → Ty-F Ty → ShapeAnswer
field_at below w (Ty-F.Inst id args) =
    if is_value_def w id then inside below else reference
  where
    inside : Option (Ty → ShapeAnswer) → ShapeAnswer
    inside None = Deep
    inside (Some inner) = value_shape inner w args (width w id) (slice_get w.defs id.0)
field_at below w (Ty-F.Array e) = reference
field_at below w (Ty-F.Missing name true) = missing below
  where
    missing : Option (Ty → ShapeAnswer) → ShapeAnswer
    missing None = Deep
    missing (Some inner) = plain 1
field_at below w (Ty-F.Missing name false) = reference
field_at below w _ = plain 8

-- A field of this type, with room for so many value fields on a path, this one counted.
unfoldable pub field_shape : ℕ → Facts → Ty → ShapeAnswer
field_shape zero w t = field_at None w (out-Ty t)
field_shape (suc room) w t = field_at (Some (field_shape room w)) w (out-Ty t)

-- the own fields of a type, with room for so many value fields on a path
abbrev pub own_shapes : ℕ → Facts → Def → List Ty → Shapes
own_shapes room w d args = together (map (field_shape room w) (field_types w d args))
