use Rattle.std.proofs.Common.{◌≡◌, ◌*◌, ◌≤◌}
use Rattle.image_write.specs.Lengths.{present_below, rows_len_below}
use Rattle.image_write.proofs.layout.tables_len.Given as goal

abbrev pub invariant-loop-t : goal.invariant-loop-t
invariant-loop-t l = record {
  present : l.present ≡ present_below l.draft l.t;
  few : l.present ≤ l.t;
  rows : l.rows_len ≡ rows_len_below l.draft l.t;
  small : l.rows_len ≤ 77309411328 * l.t;
}
