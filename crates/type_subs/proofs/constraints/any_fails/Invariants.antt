use Rattle.std.proofs.Common.{◌≡◌, drop}
use Rattle.type_pool.specs.Trees.{at_all, Grows}
use Rattle.type_subs.specs.Constraints as spec
use Rattle.type_subs.proofs.constraints.any_fails.Given as goal

abbrev pub invariant-loop-i : goal.invariant-loop-i
invariant-loop-i l = record {
  grows : Grows l.fn.pool l.pool;
  left : spec.any_fails l.world (at_all l.fn.pool l.types) (at_all l.fn.pool l.methods) (drop l.i l.formals) (drop l.i (at_all l.fn.pool l.args))
      ≡ spec.any_fails l.world (at_all l.fn.pool l.types) (at_all l.fn.pool l.methods) l.formals (at_all l.fn.pool l.args);
}
