use Rattle.std.proofs.Common.{◌≡◌, ◌+◌, ◌++◌, map}
use Rattle.std.specs.List.{flat_map, enumerate_from, range_with_len}
use Rattle.type_tree.specs.declared.tree.Key.TheVariants as key
use Rattle.world_build.specs.Signatures.{locals_run}
use Rattle.image_files.specs.Signatures.{listed, locals_in, locals_before, row_sigs}
use Rattle.type_members.specs.Trees.{tree}
use Rattle.world_build.proofs.local_signatures.push_locals.Given as goal

abbrev pub invariant-loop-row : goal.invariant-loop-row
invariant-loop-row l = record {
  keys : l.keys ≡ l.fn.keys ++ flat_map (λ row. map (λ t. key.Tree (tree l.types t)) (listed (locals_in l.tables row))) (range_with_len 1 l.row);
  places : l.places ≡ map (locals_run l.tables l.first) (enumerate_from 0 (range_with_len 1 l.row));
  next : l.next ≡ l.first + row_sigs l.tables + locals_before l.tables l.row;
}
