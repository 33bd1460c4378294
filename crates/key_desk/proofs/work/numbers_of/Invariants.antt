use Rattle.std.proofs.Common.{◌≡◌, take}
use Rattle.key_closure.specs.Bounds.{keys_at}
use Rattle.key_desk.specs.Desks as spec
use Rattle.key_desk.proofs.work.numbers_of.Given as goal

abbrev pub invariant-loop-node : goal.invariant-loop-node
invariant-loop-node l = record {
  works : spec.Works l.world l.fn.work l.work;
  pool : l.work.pool ≡ l.fn.work.pool;
  named : spec.NameAll (spec.keys_of l.work) l.numbers (keys_at l.fn.work.pool (take l.node-index l.nodes));
}
