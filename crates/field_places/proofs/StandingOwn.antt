-- The own part is the layout as it is told.
use Rattle.std.proofs.Common.{◌≡◌, ℕ, zero, ◌+◌, ◌≤◌, ◌<◌, ◌%◌, max, Bool, true, false, cond, ◌&&◌, nat_lt, List, [], ◌∷◌, length, map, replicate, Option, Some, refl, ap, ap₂, ◌∙◌, sym, subst, arith, inl, inr}
use Rattle.std.proofs.lemmas.Bool.{cases_Bool, cases_lt, and_parts, ltb-true}
use Rattle.std.proofs.lemmas.List.{length-map}
use Rattle.std.specs.List.{list_all}
use Rattle.field_places.specs.declared.explicit.Span.{Span}
use Rattle.field_places.specs.declared.shape.Arrangement.{Arrangement}
use Rattle.field_places.specs.declared.shape.Arrangement.TheVariants.{Auto, Sequential, Explicit}
use Rattle.field_places.specs.declared.shape.Shape.{Shape}
use Rattle.field_places.specs.declared.layout.Layout.{Layout}
use Rattle.field_places.specs.declared.layout.Places.{Places}
use Rattle.field_places.specs.declared.layout.Rules.{Rules}
use Rattle.field_places.specs.Shapes as are
use Rattle.field_places.specs.Places.{least_at, given, all_apart, is_aligned, last_end, end_in_order, in_order}
use Rattle.field_places.specs.Layouts.{own_part, own_places, ordered, judged, finished, sized, greatest_align}
use Rattle.field_places.specs.Laws.{EachLaid}
use Rattle.field_places.specs.Standing.{Stands, StandLeast, StandGiven, StandBy, IsEnd, IsOwnPart, placed_shapes}
use Rattle.field_places.proofs.Least.{least_at-is}
use Rattle.field_places.proofs.Orders.{shape_is}
use Rattle.field_places.proofs.Packing.{packed_shapes, greatest_some}
use Rattle.field_places.proofs.OwnFacts.{size_of, sized_is, finished_is}
use Rattle.field_places.proofs.LawfulGiven.{given-length, given_covered, given_apart, given_aligned, last_from}
use Rattle.field_places.proofs.LawfulOwn.{ordered_is, judged_is}
use Rattle.field_places.proofs.StandingLeast.{tight_done, stands_least, some_rank}
use Rattle.field_places.proofs.OnlyLeast.{only_least}
use Rattle.field_places.proofs.StandingGiven.{spans_of, given_there, spans_starts, all_apart_from, all_aligned_from, last_tight, given_spans, given_each}

-- places, and where they end
pub record Ended (kind : Arrangement) (begin : ℕ) (offsets : List (Option ℕ)) (fields : List Shape) (p : Places) : Type 0 where
  pub by : StandBy kind begin offsets fields p.offsets
  pub end : IsEnd begin p.offsets fields p.end

module _ (kind : Arrangement) (begin : ℕ) (fields : List Shape) (sound : are.are_shapes fields ≡ true) where
  abbrev places : List ℕ
  places = in_order kind 9 begin fields (replicate (length fields) 0)

  end_is : IsEnd begin places fields (end_in_order kind 9 begin fields)
  end_is = let all = tight_done kind begin fields sound in record {
    above = all.done.from;
    covers = λ i p s h. (all.done.each i p s h (some_rank kind begin fields sound places i p s h)).within;
    least = λ m from past. all.tight m from (λ i p s h above. past i p s h);
  }

  ordered_ends : (p : Places) → ordered kind begin fields ≡ Some p → StandLeast kind begin fields p.offsets × IsEnd begin p.offsets fields p.end
  ordered_ends p e = let is = ordered_is kind begin fields p e in (
    subst (λ (l : List ℕ). StandLeast kind begin fields l) (sym is.0) (stands_least kind begin fields sound),
    subst (λ (n : ℕ). IsEnd begin p.offsets fields n) (sym is.1) (subst (λ (l : List ℕ). IsEnd begin l fields (end_in_order kind 9 begin fields)) (sym is.0) end_is),
  )

  -- fields that stand least below the limit are placed
  ordered_from : (l : List ℕ) → StandLeast kind begin fields l → begin ≤ 1048576 → ((i p : ℕ) (s : Shape) → Stands l fields i p s → p + s.size ≤ 1048576) → (p : Places) × (ordered kind begin fields ≡ Some p) × (p.offsets ≡ l)
  ordered_from l least low few =
      let same : places ≡ l = only_least kind begin fields places l (stands_least kind begin fields sound) least sound in
      let under : end_in_order kind 9 begin fields ≤ 1048576 = end_is.least 1048576 low (λ i p s h. few i p s (subst (λ (o : List ℕ). Stands o fields i p s) same h)) in
      elim (cases_Bool (nat_lt 1048576 (end_in_order kind 9 begin fields))) [
        | inl over ↦ absurd (let o = ltb-true 1048576 (end_in_order kind 9 begin fields) over in omega arith)
        | inr e ↦ (record { offsets = places; end = end_in_order kind 9 begin fields }, rw e refl, same)
      ]

module _ (begin : ℕ) (offsets : List (Option ℕ)) (fields : List Shape) (as_long : length offsets ≡ length fields) where
  judged_ends : (p : Places) → judged begin (given begin offsets fields) ≡ Some p → StandGiven begin offsets fields p.offsets × IsEnd begin p.offsets fields p.end
  judged_ends p e =
      let j = judged_is begin (given begin offsets fields) p e in
      let starts : List ℕ = map (λ x. x.start) j.spans in
      let same : j.spans ≡ spans_of starts fields = given_spans begin offsets fields j.spans j.found as_long in
      let stand : StandGiven begin offsets fields starts = record {
        as_long = length-map j.spans (λ x. x.start) ∙ given-length begin offsets fields j.spans j.found as_long;
        given = given_each begin offsets fields j.spans j.found;
        apart = given_apart begin offsets fields j.spans j.found j.apart;
        aligned = given_aligned begin offsets fields j.spans j.found j.aligned;
      } in
      let end : IsEnd begin starts fields (last_end begin j.spans) = record {
        above = last_from begin j.spans;
        covers = λ i p s h. (given_covered begin offsets fields j.spans j.found i p s h).1;
        least = λ m low past. subst (λ (l : List Span). last_end begin l ≤ m) (sym same) (last_tight begin starts fields m low past);
      } in (
        subst (λ (l : List ℕ). StandGiven begin offsets fields l) (sym j.offsets_are) stand,
        subst (λ (n : ℕ). IsEnd begin p.offsets fields n) (sym j.end_is) (subst (λ (l : List ℕ). IsEnd begin l fields (last_end begin j.spans)) (sym j.offsets_are) end),
      )

  judged_from : (l : List ℕ) → StandGiven begin offsets fields l → ((i p : ℕ) (s : Shape) → Stands l fields i p s → p + s.size ≤ 1048576) → (p : Places) × (judged begin (given begin offsets fields) ≡ Some p) × (p.offsets ≡ l)
  judged_from l stand few =
      let found = given_there begin offsets fields l stand.as_long as_long stand.given few in
      let good : (all_apart (spans_of l fields) && list_all is_aligned (spans_of l fields)) ≡ true = ap₂ ◌&&◌ (all_apart_from l fields stand.apart) (all_aligned_from l fields stand.aligned) in
      (record { offsets = map (λ x. x.start) (spans_of l fields); end = last_end begin (spans_of l fields) }, ap (judged begin) found ∙ rw good refl, spans_starts l fields stand.as_long)

own_ends : (kind : Arrangement) (begin : ℕ) (offsets : List (Option ℕ)) (fields : List Shape) (p : Places) → are.are_shapes fields ≡ true → length offsets ≡ length fields → own_places kind begin offsets fields ≡ Some p → Ended kind begin offsets fields p
own_ends Auto begin offsets fields p sound as_long e = let k = ordered_ends Auto begin fields sound p e in record { by = k.0; end = k.1 }
own_ends Sequential begin offsets fields p sound as_long e = let k = ordered_ends Sequential begin fields sound p e in record { by = k.0; end = k.1 }
own_ends Explicit begin offsets fields p sound as_long e = let k = judged_ends begin offsets fields as_long p e in record { by = k.0; end = k.1 }

own_from : (kind : Arrangement) (begin : ℕ) (offsets : List (Option ℕ)) (fields : List Shape) (l : List ℕ) → are.are_shapes fields ≡ true → length offsets ≡ length fields → StandBy kind begin offsets fields l → begin ≤ 1048576
    → ((i p : ℕ) (s : Shape) → Stands l fields i p s → p + s.size ≤ 1048576) → (p : Places) × (own_places kind begin offsets fields ≡ Some p) × (p.offsets ≡ l)
own_from Auto begin offsets fields l sound as_long stand low few = ordered_from Auto begin fields sound l stand low few
own_from Sequential begin offsets fields l sound as_long stand low few = ordered_from Sequential begin fields sound l stand low few
own_from Explicit begin offsets fields l sound as_long stand low few = judged_from begin offsets fields as_long l stand few

packed-length : (kind : Arrangement) (packing : ℕ) (ss : List Shape) → length (are.packed kind packing ss) ≡ length ss
packed-length Auto packing ss = refl
packed-length Explicit packing ss = refl
packed-length Sequential packing ss = length-map ss (are.limited packing)

sized_from : (value : Bool) (places : List ℕ) (end align : ℕ) (refs : Bool) → size_of value end align ≤ 1048576
    → sized value places end align refs ≡ Some (record { offsets = places; end = end; size = size_of value end align; align = align; has_refs = refs })
sized_from value places end align refs few = elim (cases_Bool (nat_lt 1048576 (size_of value end align))) [
  | inl over ↦ absurd (let o = ltb-true 1048576 (size_of value end align) over in omega arith)
  | inr e ↦ rw e refl
]

-- layouts of the same parts
same_layout : (l : Layout) (offsets : List ℕ) (end size align : ℕ) (refs : Bool) → offsets ≡ l.offsets → end ≡ l.end → size ≡ l.size → align ≡ l.align → refs ≡ l.has_refs
    → ◌≡◌ {A = Layout} (record { offsets = offsets; end = end; size = size; align = align; has_refs = refs }) l
same_layout l offsets end size align refs a b c d e = rw (a, b, c, d, e) refl

module _ (rules : Rules) (begin : ℕ) (offsets : List (Option ℕ)) (ss : List Shape) (sound : are.are_shapes ss ≡ true) (as_long : length offsets ≡ length ss) where
  abbrev kind : Arrangement
  kind = are.arrangement (are.any_refs ss) rules.arrangement

  abbrev fields : List Shape
  fields = placed_shapes rules ss

  abbrev align : ℕ
  align = cond rules.value (greatest_align fields) 8

  abbrev goes_on : ℕ
  goes_on = begin + rules.least_size

  sound_fields : are.are_shapes fields ≡ true
  sound_fields = packed_shapes rules.arrangement rules.packing ss sound

  long_fields : length offsets ≡ length fields
  long_fields = as_long ∙ sym (packed-length kind rules.packing ss)

  align_some : 0 < align
  align_some = by rules.value
    where
      by : (v : Bool) → 0 < cond v (greatest_align fields) 8
      by true = greatest_some fields
      by false = omega arith

  pub own_stands : EachLaid rules begin offsets ss (λ l. IsOwnPart rules begin offsets ss l)
  unfolding own_part
  own_stands l e =
      let f = finished_is rules begin (are.any_refs ss) fields (own_places kind begin offsets fields) l e in
      let p = f.0 in
      let k = sized_is rules.value p.offsets (max p.end goes_on) align (are.any_refs ss) l f.2 in
      let g = own_ends kind begin offsets fields p sound_fields long_fields f.1 in
      let at : p.offsets ≡ l.offsets = ap (λ x. x.offsets) (sym k.1) in
      let end : max p.end goes_on ≡ l.end = ap (λ x. x.end) (sym k.1) in
      let al : l.align ≡ align = ap (λ x. x.align) k.1 in
      let covers = g.end.covers in
      let least = g.end.least in
      let ends : IsEnd goes_on p.offsets fields (max p.end goes_on) = record {
        above = omega arith;
        covers = λ i q s h. let c = covers i q s h in omega arith;
        least = λ m low past. let c = least m (omega arith) past in omega arith;
      } in
      record {
        places = subst (λ (o : List ℕ). StandBy kind begin offsets fields o) at g.by;
        end = subst (λ (n : ℕ). IsEnd goes_on l.offsets fields n) end (subst (λ (o : List ℕ). IsEnd goes_on o fields (max p.end goes_on)) at ends);
        align = al;
        size = ap (λ x. x.size) k.1 ∙ ap₂ (λ a n. max (least_at a n) (cond rules.value 1 0)) (sym al) end;
        refs = ap (λ x. x.has_refs) k.1;
        few = let c = k.0 in let s = ap (λ x. x.size) k.1 in omega arith;
      }

  pub own_only : (l : Layout) → IsOwnPart rules begin offsets ss l → own_part rules begin offsets ss ≡ Some l
  unfolding own_part
  own_only l is =
      let up = (least_at-is l.align l.end (let a = align_some in let b = is.align in omega arith)).above in
      let size = is.size in
      let few = is.few in
      let above = is.end.above in
      let covers = is.end.covers in
      let least = is.end.least in
      let o = own_from kind begin offsets fields l.offsets sound_fields long_fields is.places (omega arith) (λ i p s h. let c = covers i p s h in omega arith) in
      let p = o.0 in
      let g = own_ends kind begin offsets fields p sound_fields long_fields o.1 in
      let at : p.offsets ≡ l.offsets = o.2 in
      let p_covers = g.end.covers in
      let p_least = g.end.least in
      let back = λ (i q : ℕ) (s : Shape) (h : Stands p.offsets fields i q s). covers i q s (subst (λ (x : List ℕ). Stands x fields i q s) at h) in
      let no_less : p.end ≤ l.end = p_least l.end (omega arith) back in
      let no_more : l.end ≤ max p.end goes_on = least (max p.end goes_on) (omega arith) (λ i q s h. let c = p_covers i q s (subst (λ (x : List ℕ). Stands x fields i q s) (sym at) h) in omega arith) in
      let end : max p.end goes_on ≡ l.end = omega arith in
      let same_size : size_of rules.value (max p.end goes_on) align ≡ l.size = ap₂ (λ a n. max (least_at a n) (cond rules.value 1 0)) (sym is.align) end ∙ sym size in
      ap (finished rules begin (are.any_refs ss) fields) o.1
      ∙ sized_from rules.value p.offsets (max p.end goes_on) align (are.any_refs ss) (omega arith)
      ∙ ap Some (same_layout l p.offsets (max p.end goes_on) (size_of rules.value (max p.end goes_on) align) align (are.any_refs ss) at end same_size (sym is.align) (sym is.refs))

  -- ---- what users rely on

  kind_long : (k : Arrangement) (l : List ℕ) → StandBy k begin offsets fields l → length l ≡ length fields
  kind_long Auto l h = h.as_long
  kind_long Sequential l h = h.as_long
  kind_long Explicit l h = h.as_long

  -- there is an offset for each field
  pub own_long : EachLaid rules begin offsets ss (λ l. length l.offsets ≡ length ss)
  own_long l e = kind_long kind l.offsets (own_stands l e).places ∙ packed-length kind rules.packing ss

  -- a value that ends at 0 has no fields
  one_align : (fs : List Shape) (l : List ℕ) → are.are_shapes fs ≡ true → length l ≡ length fs → ((i p : ℕ) (s : Shape) → Stands l fs i p s → p + s.size ≤ 0) → greatest_align fs ≡ 1
  one_align [] l h long covers = refl
  one_align (s ∷ fs) [] h long covers = absurd (omega arith)
  one_align (s ∷ fs) (p ∷ l) h long covers = absurd (let a = (shape_is s (and_parts _ _ h).0).some in let c = covers zero p s (record { at = refl; takes = refl }) in omega arith)

  -- the size is a multiple of the alignment
  pub own_whole : EachLaid rules begin offsets ss (λ l. l.size % l.align ≡ 0)
  own_whole l e =
      let is = own_stands l e in
      let pos : 0 < l.align = let a = align_some in let b = is.align in omega arith in
      let least = least_at-is l.align l.end pos in
      let aligned = least.aligned in
      let above = least.above in
      let covers = is.end.covers in
      let size = is.size in
      elim (cases_Bool rules.value) [
        | inl value ↦
            let large : l.size ≡ max (least_at l.align l.end) 1 = size ∙ ap (λ b. max (least_at l.align l.end) (cond b 1 0)) value in
            elim (cases_lt 0 (least_at l.align l.end)) [
              | inl some ↦ let same : l.size ≡ least_at l.align l.end = omega arith in ap (λ n. n % l.align) same ∙ aligned
              | inr none ↦
                  let one : l.align ≡ 1 = is.align ∙ ap (λ b. cond b (greatest_align fields) 8) value
                  ∙ one_align fields l.offsets sound_fields (kind_long kind l.offsets is.places) (λ i p s h. let c = covers i p s h in omega arith) in
                  let size_one : l.size ≡ 1 = omega arith in
                  ap₂ (λ n m. n % m) size_one one
            ]
        | inr other ↦
            let same : l.size ≡ least_at l.align l.end = size ∙ ap (λ b. max (least_at l.align l.end) (cond b 1 0)) other ∙ (omega arith) in
            ap (λ n. n % l.align) same ∙ aligned
      ]
