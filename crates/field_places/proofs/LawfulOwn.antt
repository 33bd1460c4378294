-- The laws of the own part.
use Rattle.std.proofs.Common.{◌≡◌, inl, inr, ℕ, zero, suc, ◌+◌, ◌≤◌, ◌<◌, ◌%◌, max, Bool, true, false, cond, ◌&&◌, ◌==◌, nat_lt, List, [], ◌∷◌, length, map, replicate, Option, Some, None, slice_get, refl, ap, ◌∙◌, sym, subst, arith}
use Rattle.std.proofs.lemmas.Bool.{cases_Bool, and_parts}
use Rattle.std.specs.List.{list_all}
use Rattle.field_places.specs.declared.explicit.Span.{Span}
use Rattle.field_places.specs.declared.shape.Arrangement.{Arrangement}
use Rattle.field_places.specs.declared.shape.Arrangement.TheVariants.{Auto, Sequential, Explicit}
use Rattle.field_places.specs.declared.shape.Shape.{Shape}
use Rattle.field_places.specs.declared.layout.Layout.{Layout}
use Rattle.field_places.specs.declared.layout.Places.{Places}
use Rattle.field_places.specs.declared.layout.Rules.{Rules}
use Rattle.field_places.specs.Shapes as are
use Rattle.field_places.specs.Places.{given, all_apart, is_aligned, last_end, end_in_order, in_order}
use Rattle.field_places.specs.Layouts.{own_part, own_places, ordered, judged, greatest_align}
use Rattle.field_places.specs.Laws.{Stands, Behind, Apart, RefsApart, RefsAligned, Aligned, Covered, EachLaid, IsCovered, is_explicit, placed_shapes}
use Rattle.field_places.proofs.OwnFacts.{sized_is, finished_is, own_part_sound, shape_refs}
use Rattle.field_places.proofs.Orders.{shape_is}
use Rattle.field_places.proofs.Packing.{packed_shapes}
use Rattle.field_places.proofs.LawfulGiven.{given_covered, given_apart, given_aligned, last_from}
use Rattle.field_places.proofs.LawfulRanks.{Done, ordered_done, rank_bounds, shape_of_stand}

-- ---- from the layout to the places

pub record Laid (rules : Rules) (begin : ℕ) (offsets : List (Option ℕ)) (ss : List Shape) (l : Layout) : Type 0 where
  pub places : Places
  pub are : own_places (are.arrangement (are.any_refs ss) rules.arrangement) begin offsets (placed_shapes rules ss) ≡ Some places
  pub offsets_are : l.offsets ≡ places.offsets
  pub end_is : l.end ≡ max places.end (begin + rules.least_size)

pub laid_is : (rules : Rules) (begin : ℕ) (offsets : List (Option ℕ)) (ss : List Shape) (l : Layout) → own_part rules begin offsets ss ≡ Some l → Laid rules begin offsets ss l
unfolding own_part
laid_is rules begin offsets ss l e =
    let fields = placed_shapes rules ss in
    let f = finished_is rules begin (are.any_refs ss) fields (own_places (are.arrangement (are.any_refs ss) rules.arrangement) begin offsets fields) l e in
    let k = sized_is rules.value f.0.offsets (max f.0.end (begin + rules.least_size)) (cond rules.value (greatest_align fields) 8) (are.any_refs ss) l f.2 in
    record { places = f.0; are = f.1; offsets_are = ap (λ x. x.offsets) k.1; end_is = ap (λ x. x.end) k.1 }

pub ordered_is : (kind : Arrangement) (begin : ℕ) (ss : List Shape) (p : Places) → ordered kind begin ss ≡ Some p → (p.offsets ≡ in_order kind 9 begin ss (replicate (length ss) 0)) × (p.end ≡ end_in_order kind 9 begin ss)
ordered_is kind begin ss p e = elim (cases_Bool (nat_lt 1048576 (end_in_order kind 9 begin ss))) [
  | inl over ↦ absurd (let n : ordered kind begin ss ≡ None = rw over refl in let m : None ≡ Some p = sym n ∙ e in cc)
  | inr under ↦
      let made : Places = record { offsets = in_order kind 9 begin ss (replicate (length ss) 0); end = end_in_order kind 9 begin ss } in
      let n : ordered kind begin ss ≡ Some made = rw under refl in
      let m : Some made ≡ Some p = sym n ∙ e in
      let same : made ≡ p = cc in
      (ap (λ x. x.offsets) (sym same), ap (λ x. x.end) (sym same))
]

ordered_laws : (kind : Arrangement) (begin : ℕ) (ss : List Shape) (p : Places) → are.are_shapes ss ≡ true → ordered kind begin ss ≡ Some p → Done kind begin ss 0 p.end p.offsets
ordered_laws kind begin ss p sound e =
    let is = ordered_is kind begin ss p e in
    subst (λ (n : ℕ). Done kind begin ss 0 n p.offsets) (sym is.1) (subst (λ (l : List ℕ). Done kind begin ss 0 (end_in_order kind 9 begin ss) l) (sym is.0) (ordered_done kind begin ss sound))

pub record Judged (begin : ℕ) (o : Option (List Span)) (p : Places) : Type 0 where
  pub spans : List Span
  pub found : o ≡ Some spans
  pub apart : all_apart spans ≡ true
  pub aligned : list_all is_aligned spans ≡ true
  pub offsets_are : p.offsets ≡ map (λ x. x.start) spans
  pub end_is : p.end ≡ last_end begin spans

pub judged_is : (begin : ℕ) (o : Option (List Span)) (p : Places) → judged begin o ≡ Some p → Judged begin o p
judged_is begin None p e = absurd (cc)
judged_is begin (Some xs) p e = elim (cases_Bool (all_apart xs && list_all is_aligned xs)) [
  | inl good ↦
      let both = and_parts _ _ good in
      let made : Places = record { offsets = map (λ x. x.start) xs; end = last_end begin xs } in
      let n : judged begin (Some xs) ≡ Some made = rw good refl in
      let m : Some made ≡ Some p = sym n ∙ e in
      let same : made ≡ p = cc in
      record { spans = xs; found = refl; apart = both.0; aligned = both.1; offsets_are = ap (λ x. x.offsets) (sym same); end_is = ap (λ x. x.end) (sym same) }
  | inr bad ↦ absurd (let n : judged begin (Some xs) ≡ None = rw bad refl in let m : None ≡ Some p = sym n ∙ e in cc)
]

-- ---- shapes as they are placed take the same bytes

slice_get-map : (f : Shape → Shape) (ss : List Shape) (i : ℕ) (s : Shape) → slice_get ss i ≡ Some s → slice_get (map f ss) i ≡ Some (f s)
slice_get-map f [] i s e = absurd (cc)
slice_get-map f (x ∷ xs) zero s e = let same : x ≡ s = cc in ap (λ y. Some (f y)) same
slice_get-map f (x ∷ xs) (suc i) s e = slice_get-map f xs i s e

record SameBytes (s t : Shape) : Type 0 where
  size : t.size ≡ s.size
  refs : are.has_refs t ≡ are.has_refs s

limited_same : (packing : ℕ) (s : Shape) → SameBytes s (are.limited packing s)
limited_same packing s = elim (cases_Bool (packing == 0)) [ inl e ↦ rw e (record { size = refl; refs = refl }) | inr e ↦ rw e (record { size = refl; refs = refl }) ]

packed_stand : (kind : Arrangement) (packing : ℕ) (ps : List ℕ) (ss : List Shape) (i p : ℕ) (s : Shape) → Stands ps ss i p s → (t : Shape) × Stands ps (are.packed kind packing ss) i p t × SameBytes s t
packed_stand Auto packing ps ss i p s h = (s, h, record { size = refl; refs = refl })
packed_stand Explicit packing ps ss i p s h = (s, h, record { size = refl; refs = refl })
packed_stand Sequential packing ps ss i p s h = (are.limited packing s, record { at = h.at; takes = slice_get-map (are.limited packing) ss i s h.takes }, limited_same packing s)

behind_same : (p q : ℕ) (s s' t t' : Shape) → SameBytes s s' → SameBytes t t' → Behind p s' q t' → Behind p s q t
behind_same p q s s' t t' a b (inl h) = inl (let x = a.size in omega arith)
behind_same p q s s' t t' a b (inr h) = inr (let x = b.size in omega arith)

-- ---- of each kind

-- what holds of the places, as the shapes are placed
record Good (begin : ℕ) (fields : List Shape) (p : Places) : Type 0 where
  covered : Covered begin p.end p.offsets fields
  refs_apart : RefsApart p.offsets fields
  refs_aligned : RefsAligned p.offsets fields
  from : begin ≤ p.end

module _ (kind : Arrangement) (begin : ℕ) (fields : List Shape) (sound : are.are_shapes fields ≡ true) (p : Places) where
  above : (i q : ℕ) (t : Shape) → Stands p.offsets fields i q t → 0 < are.rank kind t
  above i q t h = (rank_bounds kind t (shape_is t (shape_of_stand fields p.offsets sound i q t h))).0

  pub ordered_apart : ordered kind begin fields ≡ Some p → Apart p.offsets fields
  ordered_apart e i j a b s t ne h k = (ordered_laws kind begin fields p sound e).apart i j a b s t ne h k (above i a s h) (above j b t k)

  pub ordered_aligned : ordered kind begin fields ≡ Some p → Aligned p.offsets fields
  ordered_aligned e i a s h = ((ordered_laws kind begin fields p sound e).each i a s h (above i a s h)).aligned

  ordered_good : ordered kind begin fields ≡ Some p → Good begin fields p
  ordered_good e =
      let done = ordered_laws kind begin fields p sound e in
      record {
        covered = λ i a s h. let c = done.each i a s h (above i a s h) in (c.above, c.within);
        refs_apart = λ i j a b s t ne h k refs. ordered_apart e i j a b s t ne h k;
        refs_aligned = λ i a s h refs. ap (λ n. a % n) (sym (shape_refs s (shape_of_stand fields p.offsets sound i a s h) refs)) ∙ ordered_aligned e i a s h;
        from = done.from;
      }

judged_good : (begin : ℕ) (offsets : List (Option ℕ)) (fields : List Shape) (p : Places) → judged begin (given begin offsets fields) ≡ Some p → Good begin fields p
judged_good begin offsets fields p e =
    let j = judged_is begin (given begin offsets fields) p e in
    let at = sym j.offsets_are in
    record {
      covered = subst (λ (l : List ℕ). Covered begin p.end l fields) at (subst (λ (n : ℕ). Covered begin n (map (λ x. x.start) j.spans) fields) (sym j.end_is) (given_covered begin offsets fields j.spans j.found));
      refs_apart = subst (λ (l : List ℕ). RefsApart l fields) at (given_apart begin offsets fields j.spans j.found j.apart);
      refs_aligned = subst (λ (l : List ℕ). RefsAligned l fields) at (given_aligned begin offsets fields j.spans j.found j.aligned);
      from = let low = last_from begin j.spans in let e = j.end_is in omega arith;
    }

own_good : (kind : Arrangement) (begin : ℕ) (offsets : List (Option ℕ)) (fields : List Shape) (p : Places) → are.are_shapes fields ≡ true → own_places kind begin offsets fields ≡ Some p → Good begin fields p
own_good Auto begin offsets fields p sound e = ordered_good Auto begin fields sound p e
own_good Sequential begin offsets fields p sound e = ordered_good Sequential begin fields sound p e
own_good Explicit begin offsets fields p sound e = judged_good begin offsets fields p e

module _ (rules : Rules) (begin : ℕ) (offsets : List (Option ℕ)) (ss : List Shape) (sound : are.are_shapes ss ≡ true) where
  abbrev kind : Arrangement
  kind = are.arrangement (are.any_refs ss) rules.arrangement

  fields_sound : are.are_shapes (placed_shapes rules ss) ≡ true
  fields_sound = packed_shapes rules.arrangement rules.packing ss sound

  good : (l : Layout) (d : Laid rules begin offsets ss l) → Good begin (placed_shapes rules ss) d.places
  good l d = own_good kind begin offsets (placed_shapes rules ss) d.places fields_sound d.are

  pub covered_law : EachLaid rules begin offsets ss (λ l. IsCovered rules begin ss l)
  covered_law l e =
      let d = laid_is rules begin offsets ss l e in
      let g = good l d in
      let k = own_part_sound rules begin ss sound offsets l e in
      record {
        fields = λ i p s h.
            let w = packed_stand kind rules.packing l.offsets ss i p s h in
            let c = g.covered i p w.0 (subst (λ (o : List ℕ). Stands o (placed_shapes rules ss) i p w.0) d.offsets_are w.1) in
            let z = w.2.size in
            let n = d.end_is in
            (c.0, omega (arith, c.1, z, n));
        own = k.goes_on;
        size = k.covers;
        few = k.few;
      }

  pub refs_law : EachLaid rules begin offsets ss (λ l. RefsApart l.offsets ss × RefsAligned l.offsets ss)
  refs_law l e =
      let d = laid_is rules begin offsets ss l e in
      let g = good l d in (
        λ i j p q s t ne h k refs.
            let a = packed_stand kind rules.packing l.offsets ss i p s h in
            let b = packed_stand kind rules.packing l.offsets ss j q t k in
            let ha = subst (λ (o : List ℕ). Stands o (placed_shapes rules ss) i p a.0) d.offsets_are a.1 in
            let hb = subst (λ (o : List ℕ). Stands o (placed_shapes rules ss) j q b.0) d.offsets_are b.1 in
            behind_same p q s a.0 t b.0 a.2 b.2 (g.refs_apart i j p q a.0 b.0 ne ha hb (a.2.refs ∙ refs)),
        λ i p s h refs.
            let a = packed_stand kind rules.packing l.offsets ss i p s h in
            g.refs_aligned i p a.0 (subst (λ (o : List ℕ). Stands o (placed_shapes rules ss) i p a.0) d.offsets_are a.1) (a.2.refs ∙ refs),
      )

-- ---- where no places are given

not_given : (refs : Bool) (declared : Arrangement) (begin : ℕ) (offsets : List (Option ℕ)) (fields : List Shape) → is_explicit declared ≡ false
    → own_places (are.arrangement refs declared) begin offsets fields ≡ ordered (are.arrangement refs declared) begin fields
not_given refs Auto begin offsets fields h = refl
not_given true Sequential begin offsets fields h = refl
not_given false Sequential begin offsets fields h = refl
not_given refs Explicit begin offsets fields h = absurd (cc)

module _ (rules : Rules) (begin : ℕ) (offsets : List (Option ℕ)) (ss : List Shape) (sound : are.are_shapes ss ≡ true) (free : is_explicit rules.arrangement ≡ false) where
  in_order_is : (l : Layout) (d : Laid rules begin offsets ss l) → ordered (are.arrangement (are.any_refs ss) rules.arrangement) begin (placed_shapes rules ss) ≡ Some d.places
  in_order_is l d = sym (not_given (are.any_refs ss) rules.arrangement begin offsets (placed_shapes rules ss) free) ∙ d.are

  pub apart_law : EachLaid rules begin offsets ss (λ l. Apart l.offsets ss)
  apart_law l e i j p q s t ne h k =
      let kind = are.arrangement (are.any_refs ss) rules.arrangement in
      let d = laid_is rules begin offsets ss l e in
      let a = packed_stand kind rules.packing l.offsets ss i p s h in
      let b = packed_stand kind rules.packing l.offsets ss j q t k in
      let ha = subst (λ (o : List ℕ). Stands o (placed_shapes rules ss) i p a.0) d.offsets_are a.1 in
      let hb = subst (λ (o : List ℕ). Stands o (placed_shapes rules ss) j q b.0) d.offsets_are b.1 in
      behind_same p q s a.0 t b.0 a.2 b.2
      (ordered_apart kind begin (placed_shapes rules ss) (packed_shapes rules.arrangement rules.packing ss sound) d.places (in_order_is l d) i j p q a.0 b.0 ne ha hb)

  pub aligned_law : EachLaid rules begin offsets ss (λ l. Aligned l.offsets (placed_shapes rules ss))
  aligned_law l e =
      let kind = are.arrangement (are.any_refs ss) rules.arrangement in
      let d = laid_is rules begin offsets ss l e in
      subst (λ (o : List ℕ). Aligned o (placed_shapes rules ss)) (sym d.offsets_are)
      (ordered_aligned kind begin (placed_shapes rules ss) (packed_shapes rules.arrangement rules.packing ss sound) d.places (in_order_is l d))
