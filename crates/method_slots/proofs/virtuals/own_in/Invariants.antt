use Rattle.type_pool.specs.Trees.{Grows}
use Rattle.method_slots.specs.Keyed.{AreOwn}
use Rattle.method_slots.specs.OpenSets.{OpensGrow}
use Rattle.method_slots.specs.Slots.{run}
use Rattle.method_slots.proofs.virtuals.own_in.Given as goal

abbrev pub invariant-loop-i : goal.invariant-loop-i
invariant-loop-i l = record {
  grows : Grows l.fn.pool l.pool;
  set_grows : OpensGrow l.fn.set l.set;
  are : AreOwn l.pool l.set l.done (run l.world l.first l.i);
}
