use Rattle.std.proofs.Common.{◌≡◌, ◌++◌, drop}
use Rattle.type_members.specs.Trees.{trees}
use Rattle.type_members.proofs.signature_trees.+tree.Given as goal

abbrev pub invariant-trees-loop-sig : goal.invariant-trees-loop-sig
invariant-trees-loop-sig l = l.done ++ trees l.types (drop l.sig-index l.sigs) ≡ trees l.types l.sigs
