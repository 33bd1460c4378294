use Rattle.std.proofs.Common.{refl, arith}
use Rattle.obj_heap.specs.Laying.{objects_of, are_laid}
use Rattle.obj_heap.proofs.heap.Heap.open.Goals as goal

pub invariant_of-result : goal.invariant_of-result
unfolding are_laid
invariant_of-result g c = rw (c.new.ensures.items, c.new-2.ensures.items, c.new-3.ensures.items) (record { laid = refl; eights = refl; limit = omega arith })

pub returns : goal.returns
unfolding objects_of
returns g c = rw c.new.ensures.items refl
