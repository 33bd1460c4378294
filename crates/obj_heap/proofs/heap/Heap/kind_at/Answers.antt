use Rattle.std.proofs.Common.{◌≡◌, ◌+◌, ◌*◌, true, false, nat_lt, take, drop, length, refl, ap, arith}
use Rattle.std.proofs.lemmas.Bool.{lt-ltb, le-ltb}
use Rattle.obj_heap.specs.Objects.{kind_in}
use Rattle.obj_heap.proofs.Found.{seen_some, seen_none, seen_length, seen_place}
use Rattle.obj_heap.proofs.heap.Heap.kind_at.Goals as goal

pub returns-in_default : goal.returns-in_default
returns-in_default g c = rw (seen_none c.deref.result.now c.self.inside.made.items c.self.inside.bytes.items c.self.inside.refs.items c.args.self.now c.deref.ensures.value c.self.view_is c.self.invariant c.args.place.object.0 c.noted.result c.noted.ensures c.in_default.is) refl

pub returns-then-from : goal.returns-then-from
returns-then-from g c =
    let past : nat_lt (8 * c.in-Some.made.words) (c.args.place.offset + c.args.width) ≡ true = lt-ltb _ _ (omega (arith, c.if-from.true, c.from.ensures, c.from-2.ensures, c.from-3.ensures)) in
    rw (seen_some c.deref.result.now c.self.inside.made.items c.self.inside.bytes.items c.self.inside.refs.items c.args.self.now c.deref.ensures.value c.self.view_is c.self.invariant c.args.place.object.0 c.noted.result c.noted.ensures _ c.in-Some.is, seen_length c.deref.result.now c.self.inside.made.items c.self.inside.bytes.items c.self.inside.refs.items c.args.self.now c.deref.ensures.value c.self.view_is c.self.invariant c.args.place.object.0 c.noted.result c.noted.ensures _ c.in-Some.is, past) refl

pub slice_bounds-refs-end : goal.slice_bounds-refs-end
slice_bounds-refs-end g c = omega (arith, seen_place c.deref.result.now c.self.inside.made.items c.self.inside.bytes.items c.self.inside.refs.items c.args.self.now c.deref.ensures.value c.self.view_is c.self.invariant c.args.place.object.0 c.noted.result c.noted.ensures _ c.in-Some.is, ap length c.deref-2.ensures.value)

pub returns : goal.returns
returns g c =
    let fits : nat_lt (8 * c.in-Some.made.words) (c.args.place.offset + c.args.width) ≡ false = le-ltb _ _ (omega (arith, c.if-from.false, c.from.ensures, c.from-2.ensures, c.from-3.ensures)) in
    rw (seen_some c.deref.result.now c.self.inside.made.items c.self.inside.bytes.items c.self.inside.refs.items c.args.self.now c.deref.ensures.value c.self.view_is c.self.invariant c.args.place.object.0 c.noted.result c.noted.ensures _ c.in-Some.is, seen_length c.deref.result.now c.self.inside.made.items c.self.inside.bytes.items c.self.inside.refs.items c.args.self.now c.deref.ensures.value c.self.view_is c.self.invariant c.args.place.object.0 c.noted.result c.noted.ensures _ c.in-Some.is, fits, c.kind_of.ensures, c.deref-2.ensures.value)
    (ap (λ k. kind_in (take k (drop c.in-Some.made.first c.self.inside.refs.items)) c.args.place.offset c.args.width) (omega arith))
