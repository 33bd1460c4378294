use Rattle.std.proofs.Common.{◌≡◌, ℕ}
use Rattle.type_members.specs.RowIndexes.{rows_at}
use Rattle.type_members.proofs.RowLists.{first_rows_with}
use Rattle.type_members.proofs.row_index.RowIndex.new.Given as goal

abbrev pub invariant-loop-row : goal.invariant-loop-row
invariant-loop-row l = (v : ℕ) → rows_at l.groups v ≡ first_rows_with l.tables l.table l.column v l.row
