use Rattle.std.proofs.Common.{◌≡◌, ◌++◌, map, take}
use Rattle.type_tree.specs.declared.tree.Key.TheVariants as key
use Rattle.type_members.specs.Trees.{tree}
use Rattle.world_build.proofs.local_signatures.push_trees.Given as goal

abbrev pub invariant-loop-sig : goal.invariant-loop-sig
invariant-loop-sig l = l.keys ≡ l.fn.keys ++ map (λ t. key.Tree (tree l.types t)) (take l.sig-index l.listed)
