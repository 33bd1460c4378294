use Rattle.std.proofs.Common.{◌≡◌, ◌++◌, [], true, length, drop}
use Rattle.type_tree.specs.Subst.{subst_all}
use Rattle.type_pool.specs.Trees.{at_all, ids_below, Grows}
use Rattle.method_slots.proofs.opens.put_in_all.Given as goal

abbrev pub invariant-loop-id : goal.invariant-loop-id
invariant-loop-id l = record {
  below : ids_below (length l.fn.pool) (drop l.id-index l.ids) ≡ true;
  grows : Grows l.fn.pool l.pool;
  within : ids_below (length l.pool) l.done ≡ true;
  are : at_all l.pool l.done ++ subst_all (at_all l.fn.pool l.types) [] (at_all l.fn.pool (drop l.id-index l.ids))
      ≡ subst_all (at_all l.fn.pool l.types) [] (at_all l.fn.pool l.ids);
}
