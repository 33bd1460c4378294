use Rattle.std.proofs.Common.{◌+◌, ◌<◌, sym, ◌∙◌, ap, Err, arith}
use Rattle.std.proofs.lemmas.Result.{err_from_is_err_and}
use Rattle.clr_base.proofs.Checks.{each_passed}
use Rattle.cli_tables.specs.Layout.{row_count}
use Rattle.image_rows.specs.Rows.{row_checks}
use Rattle.image_rows.proofs.ByColumn.{table_passes}
use Rattle.image_rows.proofs.Passing.{table_failed, row_passes, columns_fail, no_rule}
use Rattle.image_rows.proofs.rows.check_plain_table.Goals as goal

pub returns-in_err-check_columns : goal.returns-in_err-check_columns
returns-in_err-check_columns c =
    let m = c.args.tables.now in
    let p = err_from_is_err_and c.from_residual.result c.from_residual.ensures.1 in
    let within : c.loop-row.row < row_count m.tables c.args.table = omega arith in
    p.1 ∙ ap (λ z. Err z) p.2
    ∙ sym (table_failed m c.args.table c.loop-row.row _ within c.loop-row.invariant (columns_fail m c.args.table (c.loop-row.row + 1) _ (sym c.in_err-check_columns.ensures)))

pub loop-row-preserved : goal.loop-row-preserved
loop-row-preserved c =
    let m = c.args.tables.now in
    each_passed c.loop-row.row (λ r. row_checks m c.args.table (r + 1)) c.loop-row.invariant
    (row_passes m c.args.table (c.loop-row.row + 1) (sym c.in_ok-check_columns.ensures) (no_rule m c.args.table (c.loop-row.row + 1) c.requires.not_nested c.requires.not_generic))

pub returns-then-columns_pass : goal.returns-then-columns_pass
returns-then-columns_pass c = sym (table_passes c.args.tables.now c.args.table c.requires.not_nested c.requires.not_generic (c.columns_pass.ensures c.if-columns_pass.true))
