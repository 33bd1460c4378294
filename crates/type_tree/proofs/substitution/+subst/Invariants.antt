use Rattle.std.proofs.Common.{◌≡◌, ◌++◌, drop}
use Rattle.type_tree.specs.Subst as spec
use Rattle.type_tree.proofs.substitution.+subst.Given as goal

abbrev pub invariant-subst_all-loop-t : goal.invariant-subst_all-loop-t
invariant-subst_all-loop-t l = l.done ++ spec.subst_all l.types l.methods (drop l.t-index l.all) ≡ spec.subst_all l.types l.methods l.all
