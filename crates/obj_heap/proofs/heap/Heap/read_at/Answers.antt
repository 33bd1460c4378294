use Rattle.std.proofs.Common.{arith}
use Rattle.obj_heap.proofs.Found.{seen_is_made, seen_inside, seen_some, number_within}
use Rattle.obj_heap.proofs.heap.Heap.read_at.Goals as goal

pub unwrap-made-requires : goal.unwrap-made-requires
unwrap-made-requires g c = seen_is_made c.deref.result.now c.self.inside.made.items c.self.inside.bytes.items c.self.inside.refs.items c.args.self.now c.deref.ensures.value c.self.view_is c.self.invariant c.args.place.object.0 c.noted.result c.noted.ensures c.args.place.offset c.args.width c.requires.inside

pub read_number-requires-clause-inside : goal.read_number-requires-clause-inside
read_number-requires-clause-inside g c =
    let i = seen_inside c.deref.result.now c.self.inside.made.items c.self.inside.bytes.items c.self.inside.refs.items c.args.self.now c.deref.ensures.value c.self.view_is c.self.invariant c.args.place.object.0 c.noted.result c.noted.ensures c.args.place.offset c.args.width c.requires.inside _ c.unwrap-made.ensures in
    rw c.deref-2.ensures.value (omega (arith, i.0, i.1))

pub returns-clause-value : goal.returns-clause-value
returns-clause-value g c =
    let i = seen_inside c.deref.result.now c.self.inside.made.items c.self.inside.bytes.items c.self.inside.refs.items c.args.self.now c.deref.ensures.value c.self.view_is c.self.invariant c.args.place.object.0 c.noted.result c.noted.ensures c.args.place.offset c.args.width c.requires.inside _ c.unwrap-made.ensures in
    rw (seen_some c.deref.result.now c.self.inside.made.items c.self.inside.bytes.items c.self.inside.refs.items c.args.self.now c.deref.ensures.value c.self.view_is c.self.invariant c.args.place.object.0 c.noted.result c.noted.ensures _ c.unwrap-made.ensures, c.read_number.ensures.value, c.deref-2.ensures.value)
    (number_within c.unwrap-made.result.first c.unwrap-made.result.words c.args.place.offset c.args.width c.self.inside.bytes.items i.0 i.1)
