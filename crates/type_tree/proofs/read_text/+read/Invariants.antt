use Rattle.std.proofs.Common.{◌+◌, ◌*◌, length}
use Rattle.type_tree.specs.Reading as spec
use Rattle.type_tree.proofs.ListLoop.{GoesOn}
use Rattle.type_tree.proofs.read_text.+read.Given as goal

-- A tree is left by its arguments, one level deeper, and these go on to the list and to its trees.
abbrev pub decreases-tree : goal.decreases-tree
decreases-tree l = 4 * l.levels

abbrev pub decreases-arguments : goal.decreases-arguments
decreases-arguments l = 4 * l.levels + 2

abbrev pub decreases-list : goal.decreases-list
decreases-list l = 4 * l.levels + 1

abbrev pub invariant-list-loop-done : goal.invariant-list-loop-done
invariant-list-loop-done l = GoesOn (spec.Begins l.world l.levels) l.text l.done l.rest

abbrev pub decreases-list-loop-done : goal.decreases-list-loop-done
decreases-list-loop-done l = length l.rest
