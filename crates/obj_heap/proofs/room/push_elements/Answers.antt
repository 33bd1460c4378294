use Rattle.std.proofs.Common.{length, ◌∙◌, sym, refl, eqb-true, arith, append-nil}
use Rattle.std.proofs.lemmas.List.{nil_from_length}
use Rattle.obj_heap.proofs.Repeats.{repeat-nil, more_elements, mul_more, room_for_one}
use Rattle.obj_heap.proofs.room.push_elements.Goals as goal

pub returns-then-is_empty-clause-items : goal.returns-then-is_empty-clause-items
returns-then-is_empty-clause-items c =
    rw (nil_from_length c.args.element.now (eqb-true _ _ (sym c.is_empty.ensures ∙ c.if-is_empty.true)), repeat-nil c.args.count, append-nil) refl

pub loop-i-preserved : goal.loop-i-preserved
loop-i-preserved c =
    let items = rw c.unwrap.ensures at c.extend_from_slice.ensures.items in
    let len = rw c.unwrap.ensures at c.extend_from_slice.ensures.len in
    record {
      items = more_elements _ _ _ c.args.element.now c.loop-i._i c.loop-i.invariant.items items;
      len = omega (arith, len, c.loop-i.invariant.len, mul_more (length c.args.element.now) c.loop-i._i);
      capacity = omega (arith, c.loop-i.invariant.capacity, c.extend_from_slice.ensures.capacity);
    }

pub unwrap-requires : goal.unwrap-requires
unwrap-requires c = c.extend_from_slice.ensures.succeeds (room_for_one (length c.args.element.now) c.loop-i._i c.args.count _ _ _ c.loop-i-test.true c.loop-i.invariant.len (omega (arith, c.requires, c.loop-i.invariant.capacity)))
