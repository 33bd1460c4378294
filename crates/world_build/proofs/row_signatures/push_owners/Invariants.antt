use Rattle.std.proofs.Common.{◌≡◌, ◌++◌, map}
use Rattle.std.specs.List.{range_with_len}
use Rattle.type_tree.specs.declared.tree.Key.TheVariants as key
use Rattle.image_rows.specs.Cells.{owner_of}
use Rattle.world_build.specs.References.{owner_type}
use Rattle.world_build.proofs.row_signatures.push_owners.Given as goal

abbrev pub invariant-loop-row : goal.invariant-loop-row
invariant-loop-row l = l.keys ≡ l.fn.keys ++ map (λ row. key.Tree (owner_type l.types (owner_of l.tables l.column l.table row))) (range_with_len 1 l.row)
