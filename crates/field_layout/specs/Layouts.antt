-- The layout of a type (ECMA-335 II.10.1.2, II.10.7).
use Rattle.std.specs.Prelude.{ℕ, zero, suc, Bool, true, false, if◌then◌else◌, List, [], ◌∷◌, Option, None, Some, slice_get}
use Rattle.clr_base.specs.declared.ids.DefId.{DefId}
use Rattle.type_tree.specs.declared.tree.Ty.{Ty}
use Rattle.type_tree.specs.declared.tree.Ty.TheOpen.{Ty-F}
use Rattle.type_tree.specs.declared.tree.Ty.TheViews.{out-Ty}
use Rattle.type_tree.specs.declared.definition.Def.{Def}
use Rattle.type_tree.specs.World.{Facts}
use Rattle.type_tree.specs.Kinds.{is_value_def}
use Rattle.type_tree.specs.Subst.{subst_ty}
use Rattle.field_places.specs.declared.layout.Layout.{Layout}
use Rattle.field_places.specs.declared.shape.Shape.{Shape}
use Rattle.field_places.specs.Layouts.{own_part}
use Rattle.field_layout.specs.declared.answer.LayoutAnswer.{LayoutAnswer}
use Rattle.field_layout.specs.declared.answer.LayoutAnswer.TheVariants.{Laid, Deep, Bad}
use Rattle.field_layout.specs.declared.ends.ClassEnd.{ClassEnd}
use Rattle.field_layout.specs.declared.ends.ClassEnd.TheVariants as end
use Rattle.field_layout.specs.Fields.{given_places, rules_of, is_interface, width, is_exception}
use Rattle.field_layout.specs.Shapes.{Shapes, All, SomeDeep, SomeBad, own_shapes}

abbrev pub answer_of : Option Layout → LayoutAnswer
answer_of None = Bad
answer_of (Some l) = Laid l

-- a type without own fields
abbrev pub fixed : ℕ → ℕ → LayoutAnswer
fixed end align = Laid (record { offsets = []; end = end; size = end; align = align; has_refs = false })

-- 64 value fields on one path are good
abbrev pub room : ℕ
room = 64

-- the own part from `begin`, where the fields take this
abbrev pub laid_from : Bool → Facts → Def → ℕ → Shapes → LayoutAnswer
laid_from value w d begin SomeDeep = Deep
laid_from value w d begin SomeBad = Bad
laid_from value w d begin (All ss) = answer_of (own_part (rules_of value d) begin (given_places w d) ss)

-- a parent matters by where it ends
abbrev pub ended : LayoutAnswer → ClassEnd
ended (Laid l) = end.At l.end
ended Deep = end.Deep
ended Bad = end.Bad

-- a class, where its parent ends so; Deep where the parent or a field is, else Bad where either is
abbrev pub behind : ClassEnd → Facts → Def → Shapes → LayoutAnswer
behind (end.At begin) w d ss = laid_from false w d begin ss
behind end.Deep w d ss = Deep
behind end.Bad w d SomeDeep = Deep
behind end.Bad w d _ = Bad

-- a class that begins behind the object's first 8 bytes, as where its chain of parents ends with it
abbrev pub first : LayoutAnswer
first = fixed 8 8

-- the parent's layout, where `above` lays it out; the chain of parents may end with the class
abbrev pub parent_layout : (Ty → LayoutAnswer) → List Ty → Option Ty → LayoutAnswer
parent_layout above args None = first
parent_layout above args (Some p) = above (subst_ty args [] p)

-- a class, where `above` lays out its parent
abbrev pub class_at : (Ty → LayoutAnswer) → Facts → DefId → Def → List Ty → LayoutAnswer
class_at above w id d args =
    if is_exception id d then fixed 16 8
    else behind (ended (parent_layout above args d.parent)) w d (own_shapes room w d args)

-- whatever has no such definition adds nothing to an object; there is no layout where the chain may not go on
abbrev pub class_of : Option (Ty → LayoutAnswer) → Facts → DefId → List Ty → Option Def → LayoutAnswer
class_of above w id args None = first
class_of None w id args (Some d) = Bad
class_of (Some above) w id args (Some d) = class_at above w id d args

abbrev pub class_in : Option (Ty → LayoutAnswer) → Facts → Ty-F Ty → LayoutAnswer
class_in above w (Ty-F.Inst id args) = class_of above w id args (slice_get w.defs id.0)
class_in above w _ = first

-- a class whose chain of parents may have so many members, this one counted
unfoldable pub class_layout : ℕ → Facts → Ty → LayoutAnswer
class_layout zero w t = class_in None w (out-Ty t)
class_layout (suc n) w t = class_in (Some (class_layout n w)) w (out-Ty t)

-- an interface has no end and no size; its fields stand from 8
abbrev pub without_end : Layout → Layout
without_end l = record { offsets = l.offsets; end = 0; size = 0; align = 8; has_refs = l.has_refs }

abbrev pub bare : LayoutAnswer → LayoutAnswer
bare (Laid l) = Laid (without_end l)
bare Deep = Deep
bare Bad = Bad

abbrev pub inst_layout : Facts → DefId → List Ty → Option ℕ → Option Def → LayoutAnswer
inst_layout w id args (Some n) d = fixed n n
inst_layout w id args None None = fixed 8 8
inst_layout w id args None (Some d) =
    if is_value_def w id then laid_from true w d 0 (own_shapes room w d args)
    else if is_interface d then bare (laid_from false w d 8 (own_shapes room w d args))
    else class_at (class_layout 63 w) w id d args

-- An array takes 16 bytes. What is no instantiation and no array takes what a field of it does.
abbrev pub layout_at : {A : Type 0} → (DefId → List A → LayoutAnswer) → Ty-F A → LayoutAnswer
layout_at inst (Ty-F.Inst id args) = inst id args
layout_at inst (Ty-F.Array e) = fixed 16 8
layout_at inst (Ty-F.Missing name true) = fixed 1 1
layout_at inst (Ty-F.Missing name false) = fixed 8 8
layout_at inst _ = fixed 8 8

unfoldable pub layout_of : Facts → Ty → LayoutAnswer
layout_of w t = layout_at (λ id args. inst_layout w id args (width w id) (slice_get w.defs id.0)) (out-Ty t)
