use Rattle.std.proofs.Common.{◌≡◌, ◌*◌, ◌≤◌, take}
use Rattle.cli_tables.specs.Layout.{widths}
use Rattle.image_write.proofs.layout.row_len.Given as goal

abbrev pub invariant-loop-column : goal.invariant-loop-column
invariant-loop-column l = record {
  so_far : l.len ≡ widths l.counts l.heap_bits (take l.column-index l.columns);
  small : l.len ≤ 4 * l.column-index;
}
