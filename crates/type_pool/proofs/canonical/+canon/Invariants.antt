use Rattle.std.proofs.Common.{◌≡◌, ◌+◌, ◌*◌, ◌++◌, true, length, map, drop}
use Rattle.type_tree.specs.Canon.{canon_ty, shared_form}
use Rattle.type_pool.specs.Trees.{at_all, ids_below, Grows}
use Rattle.type_pool.specs.Jobs.{AllNoted}
use Rattle.type_pool.proofs.canonical.+canon.Given as goal

abbrev pub decreases-canon_in : goal.decreases-canon_in
decreases-canon_in l = 4 * l.id.0 + 2

abbrev pub decreases-canon_in_level : goal.decreases-canon_in_level
decreases-canon_in_level l = 4 * l.id.0 + 1

abbrev pub decreases-shared_in : goal.decreases-shared_in
decreases-shared_in l = 4 * l.id.0 + 3

abbrev pub decreases-shared_all : goal.decreases-shared_all
decreases-shared_all l = 4 * l.above

abbrev pub invariant-shared_all-loop-id : goal.invariant-shared_all-loop-id
invariant-shared_all-loop-id l = record {
  below : ids_below l.fn.above (drop l.id-index l.ids) ≡ true;
  grows : Grows l.fn.pool l.pool;
  job : AllNoted (canon_ty l.world) l.pool l.memo;
  within : ids_below (length l.pool) l.done ≡ true;
  are : at_all l.pool l.done ++ map (shared_form l.world) (at_all l.fn.pool (drop l.id-index l.ids)) ≡ map (shared_form l.world) (at_all l.fn.pool l.ids);
}
