use Rattle.std.proofs.Common.{arith}
use Rattle.obj_heap.specs.Calls.{new_array}
use Rattle.obj_heap.proofs.Repeats.{product_fits, marks_inside}
use Rattle.obj_heap.proofs.heap.Heap.new_array.Goals as goal

pub overflow_mul-size : goal.overflow_mul-size
overflow_mul-size g c = rw (c.from.ensures, c.from-2.ensures) (let p = product_fits c.args.element_size c.args.length (omega (arith, c.ranges.element_size)) (omega (arith, c.ranges.length)) in omega (arith, p))

pub overflow_add-size : goal.overflow_add-size
overflow_add-size g c = rw (c.from.ensures, c.from-2.ensures) (let p = product_fits c.args.element_size c.args.length (omega (arith, c.ranges.element_size)) (omega (arith, c.ranges.length)) in omega (arith, p))

pub add-requires-clause-some : goal.add-requires-clause-some
add-requires-clause-some g c = omega arith

pub add-requires-clause-fits : goal.add-requires-clause-fits
add-requires-clause-fits g c = rw (c.from.ensures, c.from-2.ensures) (let p = product_fits c.args.element_size c.args.length (omega (arith, c.ranges.element_size)) (omega (arith, c.ranges.length)) in omega (arith, p))

pub add-requires-clause-refs : goal.add-requires-clause-refs
add-requires-clause-refs g c = rw (c.from.ensures, c.from-2.ensures) (marks_inside c.args.element_size c.args.length c.args.refs.now c.requires)

pub returns-clause-made : goal.returns-clause-made
unfolding new_array
returns-clause-made g c = rw (c.from.ensures, c.from-2.ensures) at c.add.ensures.made

pub returns-clause-full : goal.returns-clause-full
returns-clause-full g c = rw (c.from.ensures, c.from-2.ensures) at c.add.ensures.full

pub returns-clause-kept : goal.returns-clause-kept
returns-clause-kept g c = c.add.ensures.kept
