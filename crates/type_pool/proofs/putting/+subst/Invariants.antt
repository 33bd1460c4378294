use Rattle.std.proofs.Common.{◌≡◌, ◌+◌, ◌*◌, ◌++◌, true, length, map, drop}
use Rattle.type_pool.specs.Trees.{at_all, ids_below, Grows}
use Rattle.type_pool.specs.Jobs.{subst_by, IsPutting}
use Rattle.type_pool.proofs.putting.+subst.Given as goal

abbrev pub decreases-put_in : goal.decreases-put_in
decreases-put_in l = 3 * l.id.0 + 2

abbrev pub decreases-put_in_level : goal.decreases-put_in_level
decreases-put_in_level l = 3 * l.id.0 + 1

abbrev pub decreases-put_in_all : goal.decreases-put_in_all
decreases-put_in_all l = 3 * l.above

abbrev pub invariant-put_in_all-loop-id : goal.invariant-put_in_all-loop-id
invariant-put_in_all-loop-id l = record {
  below : ids_below l.fn.above (drop l.id-index l.ids) ≡ true;
  grows : Grows l.fn.pool l.pool;
  job : IsPutting (subst_by l.fn.pool l.types l.methods) l.types l.methods l.pool l.memo;
  within : ids_below (length l.pool) l.done ≡ true;
  are : at_all l.pool l.done ++ map (subst_by l.fn.pool l.types l.methods) (at_all l.fn.pool (drop l.id-index l.ids))
      ≡ map (subst_by l.fn.pool l.types l.methods) (at_all l.fn.pool l.ids);
}
