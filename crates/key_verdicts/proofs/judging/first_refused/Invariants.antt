use Rattle.std.proofs.Common.{◌≡◌, true, length, drop}
use Rattle.type_pool.specs.Trees.{Grows}
use Rattle.type_pool.specs.Keys.{keys_below}
use Rattle.key_closure.specs.Bounds.{keys_at}
use Rattle.key_verdicts.specs.Verdicts as spec
use Rattle.key_verdicts.proofs.judging.first_refused.Given as goal

abbrev pub invariant-loop-key : goal.invariant-loop-key
invariant-loop-key g l = record {
  grows : Grows l.fn.pool l.pool;
  right : g.L.LocalFaults.right l.faults l.world l.pool l.notes;
  within : keys_below (length l.fn.pool) (drop l.key-index l.keys) ≡ true;
  left : spec.first_refused (g.L.LocalFaults.local l.faults l.world) (keys_at l.fn.pool (drop l.key-index l.keys)) ≡ spec.first_refused (g.L.LocalFaults.local l.faults l.world) (keys_at l.fn.pool l.keys);
}
