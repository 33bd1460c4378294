-- Classes, and types at the top.
use Rattle.std.proofs.Common.{◌≡◌, inl, inr, ℕ, zero, suc, ◌+◌, ◌-◌, ◌≤◌, ◌<◌, Bool, true, false, cond, List, [], length, map, Option, Some, None, slice_get, refl, ap, ap₂, ◌∙◌, sym, subst, arith, add-one}
use Rattle.std.proofs.lemmas.Bool.{cases_Bool}
use Rattle.std.proofs.lemmas.Option.{slice_get_past}
use Rattle.type_tree.specs.Subst.{subst_ty}
use Rattle.clr_base.specs.declared.ids.DefId.{DefId}
use Rattle.clr_base.specs.declared.ids.NameId.{NameId}
use Rattle.type_tree.specs.declared.tree.Ty.{Ty}
use Rattle.type_tree.specs.declared.tree.Ty.TheOpen.{Ty-F}
use Rattle.type_tree.specs.declared.tree.Ty.TheVariants as ty
use Rattle.type_tree.specs.declared.tree.Ty.TheViews.{out-Ty}
use Rattle.type_tree.specs.declared.definition.Def.{Def}
use Rattle.type_tree.specs.World.{Facts}
use Rattle.type_pool.specs.declared.nodes.Id.{Id}
use Rattle.type_pool.specs.declared.nodes.Node.{Node}
use Rattle.type_pool.specs.declared.nodes.Node.TheVariants.{Inst, Array, ByRef, Ptr, Var, MVar, Missing, Odd}
use Rattle.type_pool.specs.Trees.{at, at_all, ids_below, tree_of}
use Rattle.field_places.specs.declared.layout.Layout.{Layout}
use Rattle.field_places.specs.Shapes.{are_shapes}
use Rattle.field_places.specs.Layouts.{own_part}
use Rattle.field_places.proofs.OwnFacts.{own_part_sound}
use Rattle.field_layout.specs.declared.answer.LayoutAnswer.{LayoutAnswer}
use Rattle.field_layout.specs.declared.answer.LayoutAnswer.TheVariants.{Laid, Deep, Bad}
use Rattle.field_layout.specs.declared.fields.Fields.{Fields}
use Rattle.field_layout.specs.Fields.{rules_of, given_places, field_types, width, width_of, is_exception}
use Rattle.field_layout.specs.Layouts.{class_layout, class_in, class_of, parent_layout, behind, ended, first, layout_of, layout_at, inst_layout, fixed}
use Rattle.field_layout.specs.Notes.{own_layout, leaf_of, TypesAre, found_shapes}
use Rattle.field_layout.specs.declared.fields.FieldsFound.{FieldsFound}
use Rattle.field_layout.specs.declared.fields.FieldsFound.TheVariants as found
use Rattle.field_layout.specs.Shapes.{Shapes, All, SomeDeep, SomeBad, own_shapes, together, field_shape}

class_zero : (w : Facts) (t : Ty) → class_layout 0 w t ≡ class_in None w (out-Ty t)
unfolding class_layout
class_zero w t = refl

class_next : (n : ℕ) (w : Facts) (t : Ty) → class_layout (suc n) w t ≡ class_in (Some (class_layout n w)) w (out-Ty t)
unfolding class_layout
class_next n w t = refl

-- the chain may not go on
pub class_cut : (w : Facts) (t : Ty) (id : DefId) (args : List Ty) (d : Def) → out-Ty t ≡ Ty-F.Inst id args → slice_get w.defs id.0 ≡ Some d → class_layout 0 w t ≡ Bad
class_cut w t id args d out here = class_zero w t ∙ ap (class_in None w) out ∙ ap (class_of None w id args) here

pub class_some : (n : ℕ) (w : Facts) (t : Ty) (id : DefId) (args : List Ty) → out-Ty t ≡ Ty-F.Inst id args → class_layout (suc n) w t ≡ class_of (Some (class_layout n w)) w id args (slice_get w.defs id.0)
class_some n w t id args out = class_next n w t ∙ ap (class_in (Some (class_layout n w)) w) out

abbrev pub NoHead : Facts → Ty-F Ty → Type 0
NoHead w y = (id : DefId) (args : List Ty) → y ≡ Ty-F.Inst id args → slice_get w.defs id.0 ≡ None

headless : (above : Option (Ty → LayoutAnswer)) (w : Facts) (y : Ty-F Ty) → NoHead w y → class_in above w y ≡ first
headless above w (Ty-F.Inst id args) h = ap (class_of above w id args) (h id args refl) ∙ by above
  where
    by : (above : Option (Ty → LayoutAnswer)) → class_of above w id args None ≡ first
    by None = refl
    by (Some f) = refl
headless above w (Ty-F.Array e) h = refl
headless above w (Ty-F.ByRef e) h = refl
headless above w (Ty-F.Ptr e) h = refl
headless above w (Ty-F.Var k) h = refl
headless above w (Ty-F.MVar k) h = refl
headless above w (Ty-F.Missing name value) h = refl
headless above w (Ty-F.Odd k) h = refl

pub class_none : (n : ℕ) (w : Facts) (t : Ty) → NoHead w (out-Ty t) → class_layout n w t ≡ first
class_none zero w t h = class_zero w t ∙ headless None w (out-Ty t) h
class_none (suc n) w t h = class_next n w t ∙ headless (Some (class_layout n w)) w (out-Ty t) h

-- a level that is no instantiation has no head
pub no_head : (w : Facts) (ts : List Ty) (n : Node) → ((d : DefId) (parts : List Id) → n ≡ Inst d parts → ⊥) → NoHead w (out-Ty (tree_of ts n))
no_head w ts (Inst d parts) h id args e = absurd (h d parts refl)
no_head w ts (Array e) h id args q = absurd (let p = ty.outs-Array (at ts e) in cc)
no_head w ts (ByRef e) h id args q = absurd (let p = ty.outs-ByRef (at ts e) in cc)
no_head w ts (Ptr e) h id args q = absurd (let p = ty.outs-Ptr (at ts e) in cc)
no_head w ts (Var k) h id args q = absurd (let p = ty.outs-Var k in cc)
no_head w ts (MVar k) h id args q = absurd (let p = ty.outs-MVar k in cc)
no_head w ts (Missing name value) h id args q = absurd (let p = ty.outs-Missing name value in cc)
no_head w ts (Odd k) h id args q = absurd (let p = ty.outs-Odd k in cc)

-- an instantiation of a number that no definition has
pub no_def : (w : Facts) (ts : List Ty) (d : DefId) (parts : List Id) → length w.defs ≤ d.0 → NoHead w (out-Ty (tree_of ts (Inst d parts)))
no_def w ts d parts past id args e =
    let p = ty.outs-Inst d (at_all ts parts) in
    let q : Ty-F.Inst d (at_all ts parts) ≡ Ty-F.Inst id args = sym p ∙ e in
    let same : d ≡ id = cc in
    slice_get_past w.defs id.0 (subst (λ (k : DefId). length w.defs ≤ k.0) same past)

pub laid_end : (w : Facts) (value : Bool) (d : Def) (begin : ℕ) (f : Fields) (l : Layout) → are_shapes f.shapes ≡ true → own_layout value w d begin f ≡ Some l → l.end ≤ 1048576
laid_end w value d begin f l sound e = by f.good e
  where
    by : (g : Bool) → cond g (own_part (rules_of value d) begin (given_places w d) f.shapes) None ≡ Some l → l.end ≤ 1048576
    by true e = let k = own_part_sound (rules_of value d) begin f.shapes sound (given_places w d) l e in let a = k.covers in let b = k.few in omega arith
    by false e = absurd (cc)

abbrev inst_in : Facts → DefId → List Ty → LayoutAnswer
inst_in w id args = inst_layout w id args (width w id) (slice_get w.defs id.0)

pub layout_some : (w : Facts) (t : Ty) (id : DefId) (args : List Ty) → out-Ty t ≡ Ty-F.Inst id args → layout_of w t ≡ inst_layout w id args (width w id) (slice_get w.defs id.0)
unfolding layout_of
layout_some w t id args out = ap (layout_at (inst_in w)) out

layout_is : (w : Facts) (t : Ty) → layout_of w t ≡ layout_at (inst_in w) (out-Ty t)
unfolding layout_of
layout_is w t = refl

no_inst : (w : Facts) (id : DefId) (args : List Ty) → slice_get w.defs id.0 ≡ None → inst_in w id args ≡ fixed 8 8
no_inst w id args none = ap₂ (inst_layout w id args) (ap (width_of id.0) none) none

missing_is : (w : Facts) (name : NameId) (value : Bool) → layout_at (inst_in w) (Ty-F.Missing name value) ≡ leaf_of (Missing name value)
missing_is w name true = refl
missing_is w name false = refl

leaf_is : (w : Facts) (ts : List Ty) (n : Node) → NoHead w (out-Ty (tree_of ts n)) → layout_at (inst_in w) (out-Ty (tree_of ts n)) ≡ leaf_of n
leaf_is w ts (Inst d parts) h = ap (layout_at (inst_in w)) (ty.outs-Inst d (at_all ts parts)) ∙ no_inst w d (at_all ts parts) (h d (at_all ts parts) (ty.outs-Inst d (at_all ts parts)))
leaf_is w ts (Array e) h = ap (layout_at (inst_in w)) (ty.outs-Array (at ts e))
leaf_is w ts (ByRef e) h = ap (layout_at (inst_in w)) (ty.outs-ByRef (at ts e))
leaf_is w ts (Ptr e) h = ap (layout_at (inst_in w)) (ty.outs-Ptr (at ts e))
leaf_is w ts (Var k) h = ap (layout_at (inst_in w)) (ty.outs-Var k)
leaf_is w ts (MVar k) h = ap (layout_at (inst_in w)) (ty.outs-MVar k)
leaf_is w ts (Missing name value) h = ap (layout_at (inst_in w)) (ty.outs-Missing name value) ∙ missing_is w name value
leaf_is w ts (Odd k) h = ap (layout_at (inst_in w)) (ty.outs-Odd k)

pub layout_leaf : (w : Facts) (ts : List Ty) (t : Ty) (n : Node) → tree_of ts n ≡ t → NoHead w (out-Ty t) → layout_of w t ≡ leaf_of n
layout_leaf w ts t n is h = layout_is w t ∙ ap (λ x. layout_at (inst_in w) (out-Ty x)) (sym is) ∙ leaf_is w ts n (subst (λ (x : Ty). NoHead w (out-Ty x)) (sym is) h)

-- what is found says what all fields take
pub shapes_found : (w : Facts) (us : List Ty) (room : ℕ) (f : FieldsFound) → TypesAre w us room f → found_shapes f ≡ together (map (field_shape room w) us)
shapes_found w us room (found.Settled f) is = sym (is.enough room is.fits)
shapes_found w us room found.Deep is = sym is

-- a class behind its parent's end
pub class_row : (w : Facts) (above : Ty → LayoutAnswer) (id : DefId) (d : Def) (args : List Ty) → is_exception id d ≡ false → slice_get w.defs id.0 ≡ Some d
    → class_of (Some above) w id args (slice_get w.defs id.0) ≡ behind (ended (parent_layout above args d.parent)) w d (own_shapes 64 w d args)
class_row w above id d args other here = ap (class_of (Some above) w id args) here ∙ rw other refl

pub exception_row : (w : Facts) (above : Ty → LayoutAnswer) (id : DefId) (d : Def) (args : List Ty) → is_exception id d ≡ true → slice_get w.defs id.0 ≡ Some d
    → class_of (Some above) w id args (slice_get w.defs id.0) ≡ fixed 16 8
exception_row w above id d args is here = ap (class_of (Some above) w id args) here ∙ rw is refl

-- ---- a chain that may be longer

behind_laid : (w : Facts) (d : Def) (ss : Shapes) (a : LayoutAnswer) (l : Layout) → behind (ended a) w d ss ≡ Laid l → (parent : Layout) × (a ≡ Laid parent)
behind_laid w d ss (Laid parent) l e = (parent, refl)
behind_laid w d ss Deep l e = absurd (cc)
behind_laid w d SomeDeep Bad l e = absurd (cc)
behind_laid w d SomeBad Bad l e = absurd (cc)
behind_laid w d (All ss) Bad l e = absurd (cc)

abbrev pub More : (Ty → LayoutAnswer) → (Ty → LayoutAnswer) → Type 0
More f g = (u : Ty) (l : Layout) → f u ≡ Laid l → g u ≡ Laid l

same_parent : (f g : Ty → LayoutAnswer) (args : List Ty) (parent : Option Ty) (pl : Layout) → More f g → parent_layout f args parent ≡ Laid pl → parent_layout g args parent ≡ Laid pl
same_parent f g args None pl more e = e
same_parent f g args (Some p) pl more e = more (subst_ty args [] p) pl e

class_more : (w : Facts) (f g : Ty → LayoutAnswer) (id : DefId) (args : List Ty) (o : Option Def) (l : Layout) → More f g → class_of (Some f) w id args o ≡ Laid l → class_of (Some g) w id args o ≡ Laid l
class_more w f g id args None l more e = e
class_more w f g id args (Some d) l more e = elim (cases_Bool (is_exception id d)) [
  | inl is ↦
      let a : class_of (Some f) w id args (Some d) ≡ fixed 16 8 = rw is refl in
      let b : class_of (Some g) w id args (Some d) ≡ fixed 16 8 = rw is refl in
      b ∙ sym a ∙ e
  | inr other ↦
      let row = λ (h : Ty → LayoutAnswer). behind (ended (parent_layout h args d.parent)) w d (own_shapes 64 w d args) in
      let a : class_of (Some f) w id args (Some d) ≡ row f = rw other refl in
      let b : class_of (Some g) w id args (Some d) ≡ row g = rw other refl in
      let k = behind_laid w d (own_shapes 64 w d args) (parent_layout f args d.parent) l (sym a ∙ e) in
      b ∙ ap (λ x. behind (ended x) w d (own_shapes 64 w d args)) (same_parent f g args d.parent k.0 more k.1 ∙ sym k.1) ∙ sym a ∙ e
]

in_more : (w : Facts) (f g : Ty → LayoutAnswer) (y : Ty-F Ty) (l : Layout) → More f g → class_in (Some f) w y ≡ Laid l → class_in (Some g) w y ≡ Laid l
in_more w f g (Ty-F.Inst id args) l more e = class_more w f g id args (slice_get w.defs id.0) l more e
in_more w f g (Ty-F.Array x) l more e = e
in_more w f g (Ty-F.ByRef x) l more e = e
in_more w f g (Ty-F.Ptr x) l more e = e
in_more w f g (Ty-F.Var k) l more e = e
in_more w f g (Ty-F.MVar k) l more e = e
in_more w f g (Ty-F.Missing name value) l more e = e
in_more w f g (Ty-F.Odd k) l more e = e

from_none : (w : Facts) (g : Ty → LayoutAnswer) (y : Ty-F Ty) (l : Layout) → class_in None w y ≡ Laid l → class_in (Some g) w y ≡ Laid l
from_none w g (Ty-F.Inst id args) l e = by (slice_get w.defs id.0) e
  where
    by : (o : Option Def) → class_of None w id args o ≡ Laid l → class_of (Some g) w id args o ≡ Laid l
    by None e = e
    by (Some d) e = absurd (cc)
from_none w g (Ty-F.Array x) l e = e
from_none w g (Ty-F.ByRef x) l e = e
from_none w g (Ty-F.Ptr x) l e = e
from_none w g (Ty-F.Var k) l e = e
from_none w g (Ty-F.MVar k) l e = e
from_none w g (Ty-F.Missing name value) l e = e
from_none w g (Ty-F.Odd k) l e = e

-- what a chain is laid out as, a longer one is too
pub laid_more : (w : Facts) (n : ℕ) → More (class_layout n w) (class_layout (suc n) w)
laid_more w zero = λ u l e. class_next zero w u ∙ from_none w (class_layout zero w) (out-Ty u) l (sym (class_zero w u) ∙ e)
laid_more w (suc n) = λ u l e. class_next (suc n) w u ∙ in_more w (class_layout n w) (class_layout (suc n) w) (out-Ty u) l (laid_more w n) (sym (class_next n w u) ∙ e)
