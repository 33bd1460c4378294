-- The laws of the layouts of types.
use Rattle.std.proofs.Common.{◌≡◌, ◌⊎◌, inl, inr, ℕ, zero, suc, ◌+◌, ◌≤◌, ◌%◌, Bool, true, false, cond, List, [], length, map, Option, Some, None, slice_get, refl, ap, ap₂, ◌∙◌, sym, subst, arith}
use Rattle.std.proofs.lemmas.Bool.{cases_Bool}
use Rattle.std.proofs.lemmas.List.{length-map}
use Rattle.clr_base.specs.declared.ids.DefId.{DefId}
use Rattle.type_tree.specs.declared.tree.Ty.{Ty}
use Rattle.type_tree.specs.declared.definition.Def.{Def}
use Rattle.type_tree.specs.World.{Facts}
use Rattle.type_tree.specs.Kinds.{is_value_def}
use Rattle.type_tree.specs.Subst.{subst_ty}
use Rattle.field_places.specs.declared.shape.Shape.{Shape}
use Rattle.field_places.specs.declared.layout.Layout.{Layout}
use Rattle.field_places.specs.Shapes.{are_shapes}
use Rattle.field_places.specs.Layouts.{own_part}
use Rattle.field_places.proofs.LawfulOwn.{covered_law, refs_law, apart_law, aligned_law}
use Rattle.field_places.proofs.StandingOwn.{own_stands, own_long, own_whole}
use Rattle.field_layout.specs.declared.answer.LayoutAnswer.{LayoutAnswer}
use Rattle.field_layout.specs.declared.answer.LayoutAnswer.TheVariants.{Laid, Deep, Bad}
use Rattle.field_layout.specs.declared.ends.ClassEnd.{ClassEnd}
use Rattle.field_layout.specs.declared.ends.ClassEnd.TheVariants as end
use Rattle.field_layout.specs.Fields.{own_fields, rules_of, given_places, width, is_interface, is_exception}
use Rattle.field_layout.specs.Shapes.{Shapes, All, SomeDeep, SomeBad, own_shapes}
use Rattle.field_layout.specs.Layouts.{room, laid_from, answer_of, behind, ended, parent_layout, class_layout, class_at, class_of, bare, without_end, inst_layout, layout_of}
use Rattle.field_layout.specs.Laws.{Own, Stands, taken, takes, rules, begin_of, shown, IsFree, IsClass, IsTold, IsParent, IsBehind, IsSized, Apart, RefsApart, RefsAligned, Aligned, placed_shapes}
use Rattle.field_layout.proofs.Chains.{layout_some, class_some, laid_more}
use Rattle.field_layout.proofs.Shaped.{own_sound}

-- the own part of a type, and where it begins
record Part (value : Bool) (w : Facts) (d : Def) (begin : ℕ) (ss : Shapes) (l : Layout) : Type 0 where
  shapes : List Shape
  all : ss ≡ All shapes
  is : own_part (rules_of value d) begin (given_places w d) shapes ≡ Some l

part_of : (value : Bool) (w : Facts) (d : Def) (begin : ℕ) (ss : Shapes) (l : Layout) → laid_from value w d begin ss ≡ Laid l → Part value w d begin ss l
part_of value w d begin SomeDeep l e = absurd (cc)
part_of value w d begin SomeBad l e = absurd (cc)
part_of value w d begin (All ss) l e = record { shapes = ss; all = refl; is = by (own_part (rules_of value d) begin (given_places w d) ss) e }
  where
    by : (o : Option Layout) → answer_of o ≡ Laid l → o ≡ Some l
    by None e = absurd (cc)
    by (Some m) e = let same : m ≡ l = cc in ap Some same

bare_of : (a : LayoutAnswer) (l : Layout) → bare a ≡ Laid l → (m : Layout) × (a ≡ Laid m) × (l ≡ without_end m)
bare_of (Laid m) l e = (m, refl, cc)
bare_of Deep l e = absurd (cc)
bare_of Bad l e = absurd (cc)

behind_of : (a : ClassEnd) (w : Facts) (d : Def) (ss : Shapes) (l : Layout) → behind a w d ss ≡ Laid l → (begin : ℕ) × (a ≡ end.At begin) × (laid_from false w d begin ss ≡ Laid l)
behind_of (end.At begin) w d ss l e = (begin, refl, e)
behind_of end.Deep w d ss l e = absurd (cc)
behind_of end.Bad w d SomeDeep l e = absurd (cc)
behind_of end.Bad w d SomeBad l e = absurd (cc)
behind_of end.Bad w d (All ss) l e = absurd (cc)

-- what a layout with own fields is made of
record Made (w : Facts) (t : Ty) (o : Own w t) : Type 0 where
  begin : ℕ
  part : Layout
  from : begin_of w t o ≡ end.At begin
  is : own_part (rules w t o) begin (given_places w o.def) (takes w t o) ≡ Some part
  answer : o.layout ≡ shown w t o part
  sound : are_shapes (takes w t o) ≡ true
  long : length (takes w t o) ≡ length (own_fields w o.def)

module _ (w : Facts) (t : Ty) (o : Own w t) where
  abbrev ss : Shapes
  ss = own_shapes room w o.def o.args

  inst_is : inst_layout w o.id o.args None (Some o.def) ≡ Laid o.layout
  inst_is = sym (layout_some w t o.id o.args o.head ∙ ap₂ (inst_layout w o.id o.args) o.not_built_in o.exists) ∙ o.laid

  -- from the own part in one of the kinds
  made_from : (value : Bool) (begin : ℕ) (l : Layout) → is_value_def w o.id ≡ value → begin_of w t o ≡ end.At begin → o.layout ≡ shown w t o l → laid_from value w o.def begin ss ≡ Laid l → Made w t o
  made_from value begin l v from answer e =
      let p = part_of value w o.def begin ss l e in
      let k = own_sound w room o.def o.args p.shapes p.all in
      let same : takes w t o ≡ p.shapes = ap taken p.all in
      record {
        begin = begin;
        part = l;
        from = from;
        is = ap₂ (λ b s. own_part (rules_of b o.def) begin (given_places w o.def) s) v same ∙ p.is;
        answer = answer;
        sound = ap are_shapes same ∙ k.0;
        long = ap length same ∙ k.1;
      }

  shown_bare : (l : Layout) → is_value_def w o.id ≡ false → is_interface o.def ≡ true → shown w t o l ≡ without_end l
  shown_bare l other interface = rw (other, interface) refl

  made : Made w t o
  made = elim (cases_Bool (is_value_def w o.id)) [
    | inl value ↦
        let a : inst_layout w o.id o.args None (Some o.def) ≡ laid_from true w o.def 0 ss = rw value refl in
        made_from true 0 o.layout value (rw value refl) (rw value refl) (sym a ∙ inst_is)
    | inr other ↦ elim (cases_Bool (is_interface o.def)) [
      | inl interface ↦
          let a : inst_layout w o.id o.args None (Some o.def) ≡ bare (laid_from false w o.def 8 ss) = rw (other, interface) refl in
          let b = bare_of (laid_from false w o.def 8 ss) o.layout (sym a ∙ inst_is) in
          made_from false 8 b.0 other (rw (other, interface) refl) (b.2 ∙ sym (shown_bare b.0 other interface)) b.1
      | inr class ↦
          let a : inst_layout w o.id o.args None (Some o.def) ≡ class_at (class_layout 63 w) w o.id o.def o.args = rw (other, class) refl in
          let above = ended (parent_layout (class_layout 63 w) o.args o.def.parent) in
          let c : class_at (class_layout 63 w) w o.id o.def o.args ≡ behind above w o.def ss = let n = o.not_exception in rw n refl in
          let b = behind_of above w o.def ss o.layout (sym c ∙ sym a ∙ inst_is) in
          let from : begin_of w t o ≡ above = rw (other, class) refl in
          made_from false b.0 o.layout other (from ∙ b.1) (rw (other, class) refl) b.2
    ]
  ]

  given_long : length (given_places w o.def) ≡ length (takes w t o)
  given_long = length-map (own_fields w o.def) (λ f. f.place) ∙ sym made.long

  -- the offsets are those of the own part
  offsets_are : made.part.offsets ≡ o.layout.offsets
  offsets_are = by (is_value_def w o.id) (is_interface o.def) made.part ∙ ap (λ x. x.offsets) (sym made.answer)
    where
      by : (a b : Bool) (l : Layout) → l.offsets ≡ (cond a l (cond b (without_end l) l)).offsets
      by true b l = refl
      by false true l = refl
      by false false l = refl

  whole_is : (is_value_def w o.id ≡ true) ⊎ (is_interface o.def ≡ false) → made.part ≡ o.layout
  whole_is h = by (is_value_def w o.id) (is_interface o.def) h made.part ∙ sym made.answer
    where
      by : (a b : Bool) → (a ≡ true) ⊎ (b ≡ false) → (l : Layout) → l ≡ cond a l (cond b (without_end l) l)
      by true b h l = refl
      by false false h l = refl
      by false true (inl h) l = absurd (cc)
      by false true (inr h) l = absurd (cc)

  pub told : IsTold w t o
  told = record {
    begin = made.begin;
    part = made.part;
    from = made.from;
    stands = own_stands (rules w t o) made.begin (given_places w o.def) (takes w t o) made.sound given_long made.part made.is;
    answer = made.answer;
  }

  pub type_long : length o.layout.offsets ≡ length (own_fields w o.def)
  type_long = ap length (sym offsets_are) ∙ own_long (rules w t o) made.begin (given_places w o.def) (takes w t o) made.sound given_long made.part made.is ∙ made.long

  pub type_apart : IsFree w t o → Apart o.layout.offsets (takes w t o)
  type_apart free = subst (λ (l : List ℕ). Apart l (takes w t o)) offsets_are (apart_law (rules w t o) made.begin (given_places w o.def) (takes w t o) made.sound free made.part made.is)

  pub type_aligned : IsFree w t o → Aligned o.layout.offsets (placed_shapes (rules w t o) (takes w t o))
  type_aligned free = subst (λ (l : List ℕ). Aligned l (placed_shapes (rules w t o) (takes w t o))) offsets_are (aligned_law (rules w t o) made.begin (given_places w o.def) (takes w t o) made.sound free made.part made.is)

  pub type_refs : RefsApart o.layout.offsets (takes w t o) × RefsAligned o.layout.offsets (takes w t o)
  type_refs = subst (λ (l : List ℕ). RefsApart l (takes w t o) × RefsAligned l (takes w t o)) offsets_are (refs_law (rules w t o) made.begin (given_places w o.def) (takes w t o) made.sound made.part made.is)

  pub type_sized : (is_value_def w o.id ≡ true) ⊎ (is_interface o.def ≡ false) → IsSized w t o
  type_sized h =
      let c = covered_law (rules w t o) made.begin (given_places w o.def) (takes w t o) made.sound made.part made.is in
      let fields = c.fields in
      let e = whole_is h in
      let ends : made.part.end ≡ o.layout.end = ap (λ x. x.end) e in
      record {
        fields = λ i p s k. let f = fields i p s (subst (λ (l : List ℕ). Stands l (takes w t o) i p s) (sym offsets_are) k) in (omega arith, let g = f.1 in omega arith);
        covers = subst (λ (x : Layout). x.end ≤ x.size) e c.size;
        multiple = subst (λ (x : Layout). x.size % x.align ≡ 0) e (own_whole (rules w t o) made.begin (given_places w o.def) (takes w t o) made.sound given_long made.part made.is);
        few = subst (λ (x : Layout). x.size ≤ 1048576) e c.few;
      }

  pub type_behind : (parent : Layout) → IsClass w o.id o.def → IsParent w t o parent → IsBehind w t o parent
  type_behind parent class p =
      let above = parent_layout (class_layout 63 w) o.args o.def.parent in
      let u : Ty = subst_ty o.args [] p.p in
      let from : begin_of w t o ≡ ended above = let a = class.no_value in let b = class.no_interface in rw (a, b) refl in
      let up : above ≡ class_layout 63 w u = ap (parent_layout (class_layout 63 w) o.args) p.declared in
      let at : ended (class_layout 63 w u) ≡ end.At made.begin = ap ended (sym up) ∙ sym from ∙ made.from in
      let laid = laid_at (class_layout 63 w u) made.begin at in
      let more = laid_more w 63 u laid.0 laid.1 in
      let other : layout_of w u ≡ class_layout 64 w u =
      layout_some w u p.id p.args p.head ∙ ap₂ (inst_layout w p.id p.args) p.not_built_in p.exists
      ∙ (let a = p.is_class.no_value in let b = p.is_class.no_interface in rw (a, b) refl)
      ∙ sym (class_some 63 w u p.id p.args p.head ∙ ap (class_of (Some (class_layout 63 w)) w p.id p.args) p.exists) in
      let same : Laid laid.0 ≡ Laid parent = sym more ∙ sym other ∙ p.laid in
      let is : laid.0 ≡ parent = cc in
      let begins : made.begin ≡ parent.end = laid.2 ∙ ap (λ x. x.end) is in
      let c = covered_law (rules w t o) made.begin (given_places w o.def) (takes w t o) made.sound made.part made.is in
      let fields = c.fields in
      let own = c.own in
      let e = whole_is (inr class.no_interface) in
      let ends : made.part.end ≡ o.layout.end = ap (λ x. x.end) e in
      record {
        fields = λ i q s k. let f = fields i q s (subst (λ (l : List ℕ). Stands l (takes w t o) i q s) (sym offsets_are) k) in let a = f.0 in let b = f.1 in (omega arith, omega arith);
        end = omega arith;
      }
    where
      laid_at : (a : LayoutAnswer) (begin : ℕ) → ended a ≡ end.At begin → (l : Layout) × (a ≡ Laid l) × (begin ≡ l.end)
      laid_at (Laid l) begin e = (l, refl, cc)
      laid_at Deep begin e = absurd (cc)
      laid_at Bad begin e = absurd (cc)
