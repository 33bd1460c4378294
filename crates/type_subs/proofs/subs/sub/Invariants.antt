use Rattle.std.proofs.Common.{◌≡◌, ◌<◌, ◌+◌, length}
use Rattle.type_pool.specs.Trees.{at, Grows}
use Rattle.type_subs.specs.Subs as spec
use Rattle.type_subs.proofs.subs.sub.Given as goal

abbrev pub invariant-loop-turn : goal.invariant-loop-turn
invariant-loop-turn l = record {
  grows : Grows l.fn.pool l.pool;
  low : l.lower.0 + l.turn < length l.fn.pool;
  within : l.upper.0 < length l.fn.pool;
  same : spec.is_sub l.world (at l.fn.pool l.lower) (at l.fn.pool l.upper) ≡ spec.is_sub l.world (at l.fn.pool l.fn.id) (at l.fn.pool l.fn.other);
}
