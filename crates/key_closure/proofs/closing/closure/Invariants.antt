use Rattle.std.proofs.Common.{◌≡◌, true, length}
use Rattle.type_pool.specs.Trees.{Grows}
use Rattle.type_pool.specs.Keys.{key_at, keys_below}
use Rattle.key_closure.specs.Closures.{Listed}
use Rattle.key_closure.specs.Bounds as spec
use Rattle.key_closure.proofs.closing.closure.Given as goal

abbrev pub invariant-loop-turn : goal.invariant-loop-turn
invariant-loop-turn g l = record {
  grows : Grows l.fn.pool l.pool;
  noted : g.N.Needs.noted l.graph l.world l.pool l.notes;
  below : keys_below (length l.pool) l.members ≡ true;
  listed : Listed (g.N.Needs.needs l.graph l.world) (key_at l.fn.pool l.fn.key) l.turn (spec.keys_at l.pool l.members);
  inside : spec.is_within (spec.keys_at l.pool l.members) ≡ true;
}
