use Rattle.std.proofs.Common.{◌≡◌, min, ◌+◌, ◌≤◌, drop}
use Rattle.type_tree.specs.SubstMeasure as spec
use Rattle.type_tree.proofs.subst_measure.+put_weight.Given as goal

abbrev pub invariant-put_weight_of_all-loop-t : goal.invariant-put_weight_of_all-loop-t
invariant-put_weight_of_all-loop-t l = (l.sum ≤ 18446744073709551615)
    × (min (l.sum + spec.put_weight_of_all l.types l.methods (drop l.t-index l.all)) 18446744073709551615
    ≡ min (spec.put_weight_of_all l.types l.methods l.all) 18446744073709551615)
