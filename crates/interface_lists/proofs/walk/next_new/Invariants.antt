use Rattle.std.proofs.Common.{◌≡◌, true, length}
use Rattle.type_pool.specs.Trees.{ids_below}
use Rattle.interface_lists.specs.Lists as spec
use Rattle.interface_lists.specs.Walks.{members, stack}
use Rattle.interface_lists.proofs.walk.next_new.Given as goal

abbrev pub invariant-loop-id : goal.invariant-loop-id
invariant-loop-id l = record {
  within : ids_below (length l.pool) l.todo ≡ true;
  same : spec.follow l.world (stack l.pool l.fn.todo) (members l.pool l.found.keys) ≡ spec.follow l.world (stack l.pool l.todo) (members l.pool l.found.keys);
}

abbrev pub decreases-loop-id : goal.decreases-loop-id
decreases-loop-id l = length l.todo
