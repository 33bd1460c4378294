use Rattle.std.proofs.Common.{◌≡◌, ◌++◌, map}
use Rattle.std.specs.List.{range_with_len}
use Rattle.type_tree.specs.declared.tree.Key.TheVariants as key
use Rattle.world_build.specs.References.{ref_owner}
use Rattle.world_build.proofs.file_signatures.push_ref_owners.Given as goal

abbrev pub invariant-loop-row : goal.invariant-loop-row
invariant-loop-row l = l.keys ≡ l.fn.keys ++ map (λ row. key.Tree (ref_owner l.reader row)) (range_with_len 1 l.row)
