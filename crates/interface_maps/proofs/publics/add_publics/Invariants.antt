use Rattle.std.proofs.Common.{◌≡◌, length, take}
use Rattle.type_pool.specs.Trees.{at_all, Grows}
use Rattle.method_slots.specs.OpenSets.{OpensGrow}
use Rattle.method_slots.specs.Slots.{run}
use Rattle.interface_maps.specs.Choices as spec
use Rattle.interface_maps.specs.Publics.{GainPublics}
use Rattle.interface_maps.proofs.publics.add_publics.Given as goal

abbrev pub invariant-loop-i : goal.invariant-loop-i
invariant-loop-i l = record {
  grows : Grows l.fn.pool l.pool;
  set_grows : OpensGrow l.fn.set l.set;
  long : length (run l.world l.first l.i) ≡ l.i;
  gains : GainPublics l.fn.pool l.fn.set l.fn.numbers l.pool l.set l.numbers (spec.own_publics (at_all l.fn.pool l.types) (run l.world l.first l.i) (take l.i l.given));
}
