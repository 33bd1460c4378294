use Rattle.std.proofs.Common.{◌≡◌, map, take}
use Rattle.image_rows.specs.Cells.{at}
use Rattle.type_members.specs.Trees.{coded_type}
use Rattle.type_members.proofs.indexed_rows.types_in.Given as goal

abbrev pub invariant-loop-row : goal.invariant-loop-row
invariant-loop-row l = l.found ≡ map (λ row. coded_type l.types l.tables (at l.tables l.table row l.column)) (take l.row-index l.rows)
