-- Where classes end, and notes of it.
use Rattle.std.proofs.Common.{◌≡◌, inl, inr, ℕ, zero, suc, ◌+◌, ◌-◌, ◌≤◌, ◌<◌, true, false, List, [], length, Option, Some, None, slice_get, refl, ap, ◌∙◌, sym, subst, arith}
use Rattle.clr_base.specs.declared.ids.DefId.{DefId}
use Rattle.type_tree.specs.declared.tree.Ty.{Ty}
use Rattle.type_tree.specs.declared.tree.Ty.TheOpen.{Ty-F}
use Rattle.type_tree.specs.declared.tree.Ty.TheViews.{out-Ty}
use Rattle.type_tree.specs.declared.definition.Def.{Def}
use Rattle.type_tree.specs.World.{Facts}
use Rattle.type_tree.specs.Subst.{subst_ty}
use Rattle.type_pool.specs.declared.nodes.Id.{Id}
use Rattle.type_pool.specs.Trees.{at, Grows}
use Rattle.field_layout.specs.declared.answer.LayoutAnswer.{LayoutAnswer}
use Rattle.field_layout.specs.declared.answer.LayoutAnswer.TheVariants.{Laid, Deep, Bad}
use Rattle.field_layout.specs.declared.ends.ClassEnd.TheVariants as end
use Rattle.field_layout.specs.declared.ends.EndNote.{EndNote}
use Rattle.field_layout.specs.declared.known.Notes.{Notes}
use Rattle.field_layout.specs.Fields.{is_exception}
use Rattle.field_layout.specs.Shapes.{own_shapes}
use Rattle.field_layout.specs.Layouts.{class_layout, class_of, parent_layout, behind, ended}
use Rattle.field_layout.specs.Notes.{NotesOf, AllOf, IsNote, EndsWithin}
use Rattle.field_layout.specs.Ends.{EndWithin, IsEndNote, IsEnded, IsParentEnd, EndKept, Known}
use Rattle.field_layout.proofs.Chains.{NoHead, class_cut, class_some, class_none, class_row, exception_row}
use Rattle.field_layout.proofs.Walks.{noted-grown, noted_more}

pub within_from : (a : LayoutAnswer) → EndsWithin a → EndWithin (ended a)
within_from (Laid l) h = h
within_from Deep h = tt
within_from Bad h = tt

-- ---- what is found of a class

pub leaf_ended : (w : Facts) (t : Ty) (chain : ℕ) → NoHead w (out-Ty t) → IsEnded w t chain (record { members = 0; end = end.At 8 })
leaf_ended w t chain h = record {
  here = ap ended (class_none chain w t h);
  note = λ few. record { enough = λ m more. ap ended (class_none m w t h); within = omega arith };
  few = omega arith;
  within = omega arith;
}

pub noted_ended : (w : Facts) (t : Ty) (chain : ℕ) (n : EndNote) → IsEndNote w t n → n.members ≤ chain → IsEnded w t chain n
noted_ended w t chain n is few = record { here = is.enough chain few; note = λ h. is; few = omega arith; within = is.within }

module _ (w : Facts) (t : Ty) (id : DefId) (args : List Ty) (d : Def) (out : out-Ty t ≡ Ty-F.Inst id args) (exists : slice_get w.defs id.0 ≡ Some d) where
  pub cut_ended : IsEnded w t 0 (record { members = 1; end = end.Bad })
  cut_ended = record {
    here = ap ended (class_cut w t id args d out exists);
    note = λ h. absurd (omega arith);
    few = omega arith;
    within = tt;
  }

  pub exception_ended : (parents : ℕ) → is_exception id d ≡ true → IsEnded w t (parents + 1) (record { members = 1; end = end.At 16 })
  exception_ended parents is =
      let each = λ (m : ℕ) (h : 1 ≤ m). (
      let k : ℕ = m - 1 in
      let next : m ≡ suc k = omega arith in
      ap ended (ap (λ n. class_layout n w t) next ∙ class_some k w t id args out ∙ exception_row w (class_layout k w) id d args is exists)) in
      record {
        here = each (parents + 1) (omega arith);
        note = λ few. record { enough = each; within = omega arith };
        few = omega arith;
        within = omega arith;
      }

  pub class_ended : (parents : ℕ) (parent : EndNote) (answer : LayoutAnswer) → is_exception id d ≡ false → IsParentEnd w args d.parent parents parent
      → answer ≡ behind parent.end w d (own_shapes 64 w d args) → EndsWithin answer → IsEnded w t (parents + 1) (record { members = parent.members + 1; end = ended answer })
  class_ended parents parent answer other up is short =
      let each = λ (k : ℕ) (e : ended (parent_layout (class_layout k w) args d.parent) ≡ parent.end). (
      ap ended (class_some k w t id args out ∙ class_row w (class_layout k w) id d args other exists ∙ ap (λ x. behind x w d (own_shapes 64 w d args)) e ∙ sym is)) in
      let next : parents + 1 ≡ suc parents = omega arith in
      let low = up.few in
      record {
        here = ap (λ n. ended (class_layout n w t)) next ∙ each parents up.here;
        note = λ few. record {
          enough = λ m more.
              let k : ℕ = m - 1 in
              let after : m ≡ suc k = omega arith in
              ap (λ n. ended (class_layout n w t)) after ∙ each k (up.note (omega arith) k (omega arith));
          within = within_from answer short;
        };
        few = omega arith;
        within = within_from answer short;
      }

-- ---- of its parent

pub no_parent : (w : Facts) (args : List Ty) (parent : Option Ty) (chain : ℕ) → parent ≡ None → IsParentEnd w args parent chain (record { members = 0; end = end.At 8 })
no_parent w args parent chain none = record {
  here = ap (λ p. ended (parent_layout (class_layout chain w) args p)) none;
  note = λ few m more. ap (λ p. ended (parent_layout (class_layout m w) args p)) none;
  few = omega arith;
  within = omega arith;
}

pub some_parent : (w : Facts) (args : List Ty) (parent : Option Ty) (p t : Ty) (chain : ℕ) (n : EndNote) → parent ≡ Some p → t ≡ subst_ty args [] p → IsEnded w t chain n → IsParentEnd w args parent chain n
some_parent w args parent p t chain n some is e =
    let each = λ (m : ℕ). ap (λ x. ended (parent_layout (class_layout m w) args x)) some ∙ ap (λ u. ended (class_layout m w u)) (sym is) in
    record {
      here = each chain ∙ e.here;
      note = λ few m more. each m ∙ (e.note few).enough m more;
      few = e.few;
      within = e.within;
    }

-- ---- notes

pub ends_kept : (w : Facts) (ts : List Ty) (old new : NotesOf EndNote) (id : Id) (chain : ℕ) (n : EndNote) → AllOf (IsEndNote w) ts old → id.0 < length ts → IsEnded w (at ts id) chain n → EndKept old new id.0 n chain → AllOf (IsEndNote w) ts new
ends_kept w ts old new id chain n all within is (inl k) = noted_more (IsEndNote w) ts old new id.0 n all (record { of_pool = within; note = is.note k.0 }) k.1
ends_kept w ts old new id chain n all within is (inr same) = subst (λ (m : NotesOf EndNote). AllOf (IsEndNote w) ts m) (sym same) all

pub known-grown : (w : Facts) (ts us : List Ty) → Grows ts us → (notes : Notes) → Known w ts notes → Known w us notes
known-grown w ts us g notes k = record {
  shapes = noted-grown (IsNote w) ts us g notes.shapes k.shapes;
  ends = noted-grown (IsEndNote w) ts us g notes.ends k.ends;
}
