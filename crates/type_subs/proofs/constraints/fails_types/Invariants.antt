use Rattle.std.proofs.Common.{◌≡◌, true, length, drop}
use Rattle.type_pool.specs.Trees.{at, at_all, Grows}
use Rattle.type_pool.specs.Keys.{keys_below}
use Rattle.key_closure.specs.Bounds.{keys_at}
use Rattle.type_subs.specs.Constraints as spec
use Rattle.type_subs.specs.Supers.{with_supers}
use Rattle.type_subs.proofs.constraints.fails_types.Given as goal

abbrev pub invariant-loop-constraint : goal.invariant-loop-constraint
invariant-loop-constraint l = record {
  grows : Grows l.fn.pool l.pool;
  below : keys_below (length l.pool) l.keys ≡ true;
  are : keys_at l.pool l.keys ≡ with_supers l.world (at l.fn.pool l.fn.arg);
  left : spec.fails_types l.world (at_all l.fn.pool l.types) (at_all l.fn.pool l.methods) (drop l.constraint-index l.constraints) (at l.fn.pool l.fn.arg)
      ≡ spec.fails_types l.world (at_all l.fn.pool l.types) (at_all l.fn.pool l.methods) l.constraints (at l.fn.pool l.fn.arg);
}
