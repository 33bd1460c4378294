-- What users of the layouts of types rely on.
use Rattle.std.specs.Prelude.{◌≡◌, ℕ, ◌+◌, ◌≤◌, ◌%◌, false, if◌then◌else◌, List, [], length, Option, Some, None, slice_get}
use Rattle.clr_base.specs.declared.ids.DefId.{DefId}
use Rattle.type_tree.specs.declared.tree.Ty.{Ty}
use Rattle.type_tree.specs.declared.tree.Ty.TheOpen.{Ty-F}
use Rattle.type_tree.specs.declared.tree.Ty.TheViews.{out-Ty}
use Rattle.type_tree.specs.declared.definition.Def.{Def}
use Rattle.type_tree.specs.World.{Facts}
use Rattle.type_tree.specs.Kinds.{is_value_def}
use Rattle.type_tree.specs.Subst.{subst_ty}
use Rattle.field_places.specs.declared.shape.Shape.{Shape}
use Rattle.field_places.specs.declared.layout.Layout.{Layout}
use Rattle.field_places.specs.declared.layout.Rules.{Rules}
use Rattle.field_places.specs.Standing.{IsOwnPart}
pub use Rattle.field_places.specs.Laws.{Stands, Apart, RefsApart, RefsAligned, Aligned, Covered, is_explicit, placed_shapes}
use Rattle.field_layout.specs.declared.answer.LayoutAnswer.TheVariants.{Laid}
use Rattle.field_layout.specs.declared.ends.ClassEnd.{ClassEnd}
use Rattle.field_layout.specs.declared.ends.ClassEnd.TheVariants.{At}
pub use Rattle.field_layout.specs.Fields.{own_fields, arrangement, is_interface}
use Rattle.field_layout.specs.Fields.{rules_of, given_places, width, is_exception}
use Rattle.field_layout.specs.Shapes.{Shapes, All, own_shapes}
use Rattle.field_layout.specs.Layouts.{room, ended, parent_layout, class_layout, without_end, layout_of}

-- A type that has a layout and own fields in it: an instantiation of a definition that isn't built in.
pub record Own (w : Facts) (t : Ty) : Type 0 where
  pub id : DefId
  pub args : List Ty
  pub def : Def
  pub layout : Layout
  pub head : out-Ty t ≡ Ty-F.Inst id args
  pub exists : slice_get w.defs id.0 ≡ Some def
  pub not_built_in : width w id ≡ None
  pub not_exception : is_exception id def ≡ false
  pub laid : layout_of w t ≡ Laid layout

abbrev pub taken : Shapes → List Shape
taken (All ss) = ss
taken _ = []

-- what the own instance fields take, with the type's arguments put in
abbrev pub takes : (w : Facts) (t : Ty) → Own w t → List Shape
takes w t o = taken (own_shapes room w o.def o.args)

-- how they are placed
abbrev pub rules : (w : Facts) (t : Ty) → Own w t → Rules
rules w t o = rules_of (is_value_def w o.id) o.def

-- no offsets are given
abbrev pub IsFree : (w : Facts) (t : Ty) → Own w t → Type 0
IsFree w t o = is_explicit (arrangement o.def) ≡ false

-- a class, and no value type and no interface
pub record IsClass (w : Facts) (id : DefId) (d : Def) : Type 0 where
  pub no_value : is_value_def w id ≡ false
  pub no_interface : is_interface d ≡ false

-- where the own part begins: a value's at 0, an interface's at 8, and a class's where its parent ends
abbrev pub begin_of : (w : Facts) (t : Ty) → Own w t → ClassEnd
begin_of w t o =
    if is_value_def w o.id then At 0
    else if is_interface o.def then At 8
    else ended (parent_layout (class_layout 63 w) o.args o.def.parent)

-- what is answered of an own part
abbrev pub shown : (w : Facts) (t : Ty) → Own w t → Layout → Layout
shown w t o l = if is_value_def w o.id then l else if is_interface o.def then without_end l else l

-- The layout is the one in which each own field, in its kind's order, stands at the least place, or at its own offset.
pub record IsTold (w : Facts) (t : Ty) (o : Own w t) : Type 0 where
  pub begin : ℕ
  pub part : Layout
  pub from : begin_of w t o ≡ At begin
  pub stands : IsOwnPart (rules w t o) begin (given_places w o.def) (takes w t o) part
  pub answer : o.layout ≡ shown w t o part

-- the parent of a class that is a class itself, and where it ends
pub record IsParent (w : Facts) (t : Ty) (o : Own w t) (parent : Layout) : Type 0 where
  pub p : Ty
  pub id : DefId
  pub args : List Ty
  pub def : Def
  pub declared : o.def.parent ≡ Some p
  pub head : out-Ty (subst_ty o.args [] p) ≡ Ty-F.Inst id args
  pub exists : slice_get w.defs id.0 ≡ Some def
  pub not_built_in : width w id ≡ None
  pub is_class : IsClass w id def
  pub laid : layout_of w (subst_ty o.args [] p) ≡ Laid parent

-- each field of a class stands at or past its parent's end, and so does its own end
pub record IsBehind (w : Facts) (t : Ty) (o : Own w t) (parent : Layout) : Type 0 where
  pub fields : Covered parent.end o.layout.end o.layout.offsets (takes w t o)
  pub end : parent.end ≤ o.layout.end

-- the size covers each field and is a multiple of the alignment
pub record IsSized (w : Facts) (t : Ty) (o : Own w t) : Type 0 where
  pub fields : Covered 0 o.layout.end o.layout.offsets (takes w t o)
  pub covers : o.layout.end ≤ o.layout.size
  pub multiple : o.layout.size % o.layout.align ≡ 0
  pub few : o.layout.size ≤ 1048576
