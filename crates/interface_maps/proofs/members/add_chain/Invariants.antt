use Rattle.std.proofs.Common.{◌≤◌, length, drop}
use Rattle.type_pool.specs.Trees.{at_all, Grows}
use Rattle.method_slots.specs.OpenSets.{OpensGrow}
use Rattle.interface_maps.specs.Choices as spec
use Rattle.interface_maps.specs.Publics.{GainPublics}
use Rattle.interface_maps.proofs.members.add_chain.Given as goal

abbrev pub invariant-loop-left : goal.invariant-loop-left
invariant-loop-left l = record {
  grows : Grows l.fn.pool l.pool;
  set_grows : OpensGrow l.fn.set l.set;
  few : l.left ≤ length l.chain;
  gains : GainPublics l.fn.pool l.fn.set l.fn.numbers l.pool l.set l.numbers (spec.publics_of l.world (at_all l.fn.pool (drop l.left l.chain)));
}

abbrev pub decreases-loop-left : goal.decreases-loop-left
decreases-loop-left l = l.left
