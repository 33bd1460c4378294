use Rattle.std.proofs.Common.{◌≡◌, ◌++◌, drop}
use Rattle.type_tree.specs.SubstMeasure as spec
use Rattle.type_tree.proofs.subst_measure.weights.Given as goal

abbrev pub invariant-loop-t : goal.invariant-loop-t
invariant-loop-t l = l.done ++ spec.held_weights (drop l.t-index l.all) ≡ spec.held_weights l.all
