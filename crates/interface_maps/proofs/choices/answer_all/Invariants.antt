use Rattle.std.proofs.Common.{map, take}
use Rattle.type_pool.specs.Trees.{at_all, Grows}
use Rattle.method_slots.specs.OpenSets.{OpensGrow}
use Rattle.interface_maps.specs.Choices as spec
use Rattle.interface_maps.specs.Found.{AreFound}
use Rattle.interface_maps.specs.Maps.{above_of, own_of}
use Rattle.interface_maps.proofs.choices.answer_all.Given as goal

abbrev pub invariant-loop-i : goal.invariant-loop-i
invariant-loop-i l = record {
  grows : Grows l.fn.pool l.pool;
  set_grows : OpensGrow l.fn.set l.set;
  found : AreFound l.pool l.done (map (spec.answered l.world l.id.0 l.def (own_of l.world l.def) (above_of l.world l.def)) (at_all l.fn.pool (take l.i l.list)));
}
