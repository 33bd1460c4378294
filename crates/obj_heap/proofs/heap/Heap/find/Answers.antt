use Rattle.std.proofs.Common.{refl, arith}
use Rattle.obj_heap.proofs.Added.{none_past, few_seen}
use Rattle.obj_heap.proofs.Found.{seen_some, seen_none}
use Rattle.obj_heap.proofs.heap.Heap.find.Goals as goal

pub returns-then-number-as_slice-clause-value : goal.returns-then-number-as_slice-clause-value
returns-then-number-as_slice-clause-value g c = rw (none_past c.self.inside.made.items c.self.inside.bytes.items c.self.inside.refs.items c.args.self.now c.self.view_is c.self.invariant c.args.number (rw c.as_slice.ensures.value at c.if-number-as_slice.true)) refl

pub overflow_cast-object : goal.overflow_cast-object
overflow_cast-object g c =
    let few = few_seen c.self.inside.made.items c.self.inside.bytes.items c.self.inside.refs.items c.args.self.now c.self.view_is c.self.invariant in
    let low = rw c.as_slice.ensures.value at c.if-number-as_slice.false in
    omega (arith, few, low)

pub returns-in-Some-clause-value : goal.returns-in-Some-clause-value
returns-in-Some-clause-value g c = rw (seen_some c.deref.result.now c.self.inside.made.items c.self.inside.bytes.items c.self.inside.refs.items c.args.self.now c.deref.ensures.value c.self.view_is c.self.invariant c.args.number c.noted.result c.noted.ensures _ c.in-Some.is) refl

pub returns-in-Some-clause-made : goal.returns-in-Some-clause-made
returns-in-Some-clause-made g c = rw (seen_some c.deref.result.now c.self.inside.made.items c.self.inside.bytes.items c.self.inside.refs.items c.args.self.now c.deref.ensures.value c.self.view_is c.self.invariant c.args.number c.noted.result c.noted.ensures _ c.in-Some.is) refl

pub returns-in-None-clause-value : goal.returns-in-None-clause-value
returns-in-None-clause-value g c = rw (seen_none c.deref.result.now c.self.inside.made.items c.self.inside.bytes.items c.self.inside.refs.items c.args.self.now c.deref.ensures.value c.self.view_is c.self.invariant c.args.number c.noted.result c.noted.ensures c.in-None.is) refl
