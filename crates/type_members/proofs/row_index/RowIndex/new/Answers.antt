use Rattle.std.proofs.Common.{arith, ◌≡◌}
use Rattle.cli_tables.specs.Layout.{row_count}
use Rattle.type_members.proofs.RowLists.{group_more, group_whole}
use Rattle.type_members.proofs.row_index.RowIndex.new.Goals as goal

pub loop-row-preserved : goal.loop-row-preserved
loop-row-preserved c = λ v.
    group_more c.args.tables.now c.args.table c.args.column c.loop-row.row c.cell-value.result v _ _
    c.cell-value.ensures (c.loop-row.invariant v) (c.in_ok-add.ensures v)

pub returns : goal.returns
returns c = record {
  each = λ value.
      let all : c.loop-row.row ≡ row_count c.args.tables.now.tables c.args.table = omega (arith, c.row_count-row-end.ensures.exact) in
      group_whole c.args.tables.now c.args.table c.args.column value c.loop-row.row _ all (c.loop-row.invariant value);
}
