use Rattle.std.proofs.Common.{◌≡◌, ◌++◌, map, Some}
use Rattle.std.specs.List.{range_with_len}
use Rattle.type_tree.specs.declared.tree.Key.TheVariants as key
use Rattle.type_tree.specs.declared.tree.Ty.TheVariants as ty
use Rattle.type_members.specs.Trees.{type_at_row}
use Rattle.world_build.proofs.row_signatures.push_arrays.Given as goal

abbrev pub invariant-loop-row : goal.invariant-loop-row
invariant-loop-row l = l.keys ≡ l.fn.keys ++ map (λ row. key.Tree (ty.Array (type_at_row l.types l.tables (Some (record { table = l.table; row = row }))))) (range_with_len 1 l.row)
