use Rattle.std.proofs.Common.{refl}
use Rattle.obj_heap.proofs.Found.{seen_made, seen_some}
use Rattle.obj_heap.proofs.heap.Heap.handle_of.Goals as goal

pub unwrap-requires : goal.unwrap-requires
unwrap-requires g c = seen_made c.deref.result.now c.self.inside.made.items c.self.inside.bytes.items c.self.inside.refs.items c.args.self.now c.deref.ensures.value c.self.view_is c.self.invariant c.args.object.0 c.noted.result c.noted.ensures c.requires

pub returns : goal.returns
returns g c = rw (seen_some c.deref.result.now c.self.inside.made.items c.self.inside.bytes.items c.self.inside.refs.items c.args.self.now c.deref.ensures.value c.self.view_is c.self.invariant c.args.object.0 c.noted.result c.noted.ensures c.unwrap.result c.unwrap.ensures) refl
