use Rattle.std.proofs.Common.{◌≡◌, ◌++◌, drop}
use Rattle.type_tree.specs.Canon as spec
use Rattle.type_tree.proofs.canonical.+canon.Given as goal

abbrev pub invariant-shared_forms-loop-t : goal.invariant-shared_forms-loop-t
invariant-shared_forms-loop-t l = l.done ++ spec.shared_forms l.world (drop l.t-index l.all) ≡ spec.shared_forms l.world l.all
