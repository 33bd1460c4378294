use Rattle.std.proofs.Common.{◌+◌, sym, ◌∙◌, arith}
use Rattle.std.proofs.lemmas.Result.{err_from_is_err_and}
use Rattle.clr_base.proofs.Checks.{each_none, each_passed, each_failed}
use Rattle.cli_tables.specs.Layout.{row_count}
use Rattle.image_rows.specs.SignatureChecks.{row_signature_checks, column_signature_checks}
use Rattle.image_rows.proofs.Bits.{nothing_noted}
use Rattle.image_rows.proofs.Giving.{gives_fault}
use Rattle.image_rows.proofs.Signed.{row_check}
use Rattle.image_rows.proofs.signature_checks.check_column.Goals as goal

pub loop-row-init : goal.loop-row-init
loop-row-init c = record { passed = each_none (λ r. row_signature_checks c.args.tables.now c.args.column (r + 1)); noted = nothing_noted _ _ c.new-noted.ensures.items }

pub returns-in_err-check : goal.returns-in_err-check
unfolding column_signature_checks
returns-in_err-check c =
    let p = err_from_is_err_and c.from_residual-in_err-check.result c.from_residual-in_err-check.ensures.1 in
    let m = c.args.tables.now in
    let here = row_check m c.args.column (c.loop-row.row + 1) _ _ _ c.in_ok-good.ensures.exact c.cell-index.ensures c.token-place.ensures in
    gives_fault _ p.0 _ _ p.1 p.2
    (each_failed c.loop-row.row (row_count m.tables c.args.column.table) (λ r. row_signature_checks m c.args.column (r + 1)) (tt {0}) _ (omega arith) c.loop-row.invariant.passed
    (sym here ∙ sym c.in_err-check.ensures))

pub loop-row-preserved : goal.loop-row-preserved
loop-row-preserved c =
    let m = c.args.tables.now in
    let here = row_check m c.args.column (c.loop-row.row + 1) _ _ _ c.in_ok-good.ensures.exact c.cell-index.ensures c.token-place.ensures in
    record {
      passed = each_passed c.loop-row.row (λ r. row_signature_checks m c.args.column (r + 1)) c.loop-row.invariant.passed (sym here ∙ sym c.in_ok-check.ensures);
      noted = c.in_ok-good.ensures.noted;
    }
