use Rattle.std.proofs.Common.{◌≡◌, ◌++◌, map}
use Rattle.std.specs.List.{range_with_len}
use Rattle.image_rows.specs.Cells.{owner_of}
use Rattle.type_members.specs.Members.{method_of, method_sig}
use Rattle.type_members.proofs.members.push_methods.Given as goal

abbrev pub invariant-loop-row : goal.invariant-loop-row
invariant-loop-row l = record {
  methods : l.methods ≡ l.initial.methods ++ map (λ row. method_of l.names l.tables (owner_of l.tables 5 0x06 row) row) (range_with_len 1 l.row);
  generics : l.generics ≡ l.initial.generics ++ map (λ row. (method_sig l.tables row).generic) (range_with_len 1 l.row);
}
