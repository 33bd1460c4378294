use Rattle.std.proofs.Common.{◌-◌, ◌≤◌, length}
use Rattle.type_pool.specs.Trees.{Grows}
use Rattle.interface_lists.specs.Lists as spec
use Rattle.interface_lists.proofs.Ids.{Walking}
use Rattle.interface_lists.proofs.walk.own_list.Given as goal

abbrev pub invariant-loop-id : goal.invariant-loop-id
invariant-loop-id l = record {
  grows : Grows l.fn.pool l.pool;
  walking : Walking l.world l.pool l.todo l.found.keys (spec.own_list l.world l.def);
  few : length l.found.keys ≤ 4096;
}

abbrev pub decreases-loop-id : goal.decreases-loop-id
decreases-loop-id l = 4096 - length l.found.keys
