use Rattle.std.proofs.Common.{◌+◌, ◌*◌, ◌<◌, replicate, max, sym, ap, ap₂, ◌∙◌, arith, rules}
use Rattle.std.proofs.lemmas.Result.{err_from_is_err_and}
use Rattle.clr_base.proofs.Checks.{each_none, each_passed}
use Rattle.cli_tables.specs.Layout.{row_count}
use Rattle.image_rows.specs.Rows.{row_checks}
use Rattle.image_rows.proofs.Giving.{gives_fault}
use Rattle.image_rows.proofs.Noted.{none_owned}
use Rattle.image_rows.proofs.Passing.{table_failed, row_passes, columns_fail, rule_fails}
use Rattle.image_rows.proofs.row_rules.check_generic_params.Goals as goal

pub loop-row-init : goal.loop-row-init
loop-row-init c = (
  each_none (λ r. row_checks c.args.tables.now 0x2a (r + 1)),
  none_owned c.args.tables.now c.from_vec-owned.result
      (c.from_vec-owned.ensures ∙ c.in_ok-vec.ensures.items_if_clones_equal (λ y e. search rules)
      ∙ ap (λ n. replicate (2 * (n + 1)) 0) (c.max.ensures ∙ ap₂ max c.row_count.ensures.exact c.row_count-2.ensures.exact)),
)

pub returns-in_err-check_columns : goal.returns-in_err-check_columns
returns-in_err-check_columns c =
    let m = c.args.tables.now in
    let p = err_from_is_err_and c.from_residual-in_err-check_columns.result c.from_residual-in_err-check_columns.ensures.1 in
    let within : c.loop-row.row < row_count m.tables 0x2a = omega arith in
    gives_fault _ p.0 _ _ p.1 p.2
    (table_failed m 0x2a c.loop-row.row _ within c.loop-row.invariant.0 (columns_fail m 0x2a (c.loop-row.row + 1) _ (sym c.in_err-check_columns.ensures)))

pub returns-in_err-check_number : goal.returns-in_err-check_number
returns-in_err-check_number c =
    let m = c.args.tables.now in
    let p = err_from_is_err_and c.from_residual-in_err-check_number.result c.from_residual-in_err-check_number.ensures.1 in
    let within : c.loop-row.row < row_count m.tables 0x2a = omega arith in
    gives_fault _ p.0 _ _ p.1 p.2
    (table_failed m 0x2a c.loop-row.row _ within c.loop-row.invariant.0
    (rule_fails m 0x2a (c.loop-row.row + 1) _ (sym c.in_ok-check_columns.ensures) (sym c.in_err-check_number.ensures.exact)))

pub loop-row-preserved : goal.loop-row-preserved
loop-row-preserved c =
    let m = c.args.tables.now in (
      each_passed c.loop-row.row (λ r. row_checks m 0x2a (r + 1)) c.loop-row.invariant.0
          (row_passes m 0x2a (c.loop-row.row + 1) (sym c.in_ok-check_columns.ensures) (sym c.in_ok-check_number.ensures.exact)),
      c.check_number.ensures.owned,
    )
