use Rattle.std.proofs.Common.{arith, append-nil}
use Rattle.obj_heap.specs.Calls.{new_object}
use Rattle.obj_heap.proofs.heap.Heap.new_object.Goals as goal

pub add-requires-clause-some : goal.add-requires-clause-some
add-requires-clause-some g c = omega (arith, c.requires.some, c.from.ensures)

pub add-requires-clause-fits : goal.add-requires-clause-fits
add-requires-clause-fits g c = omega (arith, c.ranges.size, c.from.ensures)

pub add-requires-clause-refs : goal.add-requires-clause-refs
add-requires-clause-refs g c = omega (arith, c.requires.refs, c.from.ensures)

pub returns-clause-made : goal.returns-clause-made
unfolding new_object
returns-clause-made g c = rw (c.from.ensures, append-nil c.args.refs.now) at c.add.ensures.made

pub returns-clause-full : goal.returns-clause-full
returns-clause-full g c = rw c.from.ensures at c.add.ensures.full

pub returns-clause-kept : goal.returns-clause-kept
returns-clause-kept g c = c.add.ensures.kept
