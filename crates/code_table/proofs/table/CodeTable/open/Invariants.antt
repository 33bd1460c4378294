use Rattle.std.proofs.Common.{◌≡◌, ◌≤◌, map}
use Rattle.std.specs.List.{range_with_len}
use Rattle.type_tree.specs.Bodies as bodies
use Rattle.code_table.proofs.table.CodeTable.open.Given as goal

abbrev pub invariant-loop-method : goal.invariant-loop-method
invariant-loop-method l = record {
  bound : l.method ≤ l.count;
  done : map (λ s. s.bytes) l.slots.items ≡ map (bodies.body l.world) (range_with_len 0 l.method);
}
