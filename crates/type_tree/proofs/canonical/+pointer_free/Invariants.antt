use Rattle.std.proofs.Common.{◌≡◌, drop}
use Rattle.type_tree.specs.Canon as spec
use Rattle.type_tree.proofs.canonical.+pointer_free.Given as goal

abbrev pub invariant-are_pointer_free-loop-t : goal.invariant-are_pointer_free-loop-t
invariant-are_pointer_free-loop-t l = spec.are_pointer_free (drop l.t-index l.all) ≡ spec.are_pointer_free l.all
