use Rattle.std.proofs.Common.{◌≡◌, true, length, drop}
use Rattle.type_pool.specs.Trees.{at_all, ids_below}
use Rattle.type_subs.specs.Canons as spec
use Rattle.type_subs.specs.Notes.{IsNoted}
use Rattle.type_subs.proofs.canons.in_any.Given as goal

abbrev pub invariant-loop-id : goal.invariant-loop-id
invariant-loop-id l = record {
  noted : IsNoted l.world l.pool l.flags;
  below : ids_below (length l.pool) (drop l.id-index l.ids) ≡ true;
  left : spec.any_has_canon l.world (at_all l.pool (drop l.id-index l.ids)) ≡ spec.any_has_canon l.world (at_all l.pool l.ids);
}
