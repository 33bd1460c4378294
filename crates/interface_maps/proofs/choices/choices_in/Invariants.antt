use Rattle.std.proofs.Common.{◌≡◌, filter}
use Rattle.std.specs.List.{range_with_len}
use Rattle.type_pool.specs.Trees.{at, Grows}
use Rattle.method_slots.specs.OpenSets.{OpensGrow}
use Rattle.interface_maps.specs.Choices as spec
use Rattle.interface_maps.specs.Maps.{each_of}
use Rattle.interface_maps.proofs.choices.choices_in.Given as goal

abbrev pub invariant-loop-i : goal.invariant-loop-i
invariant-loop-i l = record {
  grows : Grows l.fn.pool l.pool;
  set_grows : OpensGrow l.fn.set l.set;
  done : l.done ≡ spec.each (each_of l.world l.id.0 l.def (at l.fn.pool l.tree)) 0 (filter (spec.is_method l.world) (range_with_len l.first l.i));
}
