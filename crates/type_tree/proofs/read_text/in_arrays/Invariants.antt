use Rattle.std.proofs.Common.{◌≡◌}
use Rattle.type_tree.specs.Reading as spec
use Rattle.type_tree.proofs.read_text.in_arrays.Given as goal

abbrev pub invariant-loop : goal.invariant-loop
invariant-loop l = l.tree ≡ spec.in_arrays l.counter l.initial.tree
