use Rattle.std.proofs.Common.{◌≡◌, ◌++◌, map}
use Rattle.std.specs.List.{range_with_len}
use Rattle.image_rows.specs.Cells.{owner_of}
use Rattle.type_members.specs.Members.{field_of}
use Rattle.type_members.proofs.members.push_fields.Given as goal

abbrev pub invariant-loop-row : goal.invariant-loop-row
invariant-loop-row l = l.fields ≡ l.initial.fields ++ map (λ row. field_of l.names l.tables (owner_of l.tables 4 0x04 row) row) (range_with_len 1 l.row)
