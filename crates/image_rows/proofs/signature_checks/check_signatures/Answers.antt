use Rattle.std.proofs.Common.{arith}
use Rattle.std.proofs.lemmas.Result.{err_from_is_err_and}
use Rattle.image_rows.specs.declared.signature_checks.TheConstants.{SIG_COLUMNS}
use Rattle.image_rows.specs.SignatureChecks.{column_signature_checks, signature_checks}
use Rattle.image_rows.proofs.Giving.{gives_on}
use Rattle.image_rows.proofs.Signed.{flat_passed, flat_failed, columns_are_there}
use Rattle.image_rows.proofs.signature_checks.check_signatures.Goals as goal

pub check_column-requires : goal.check_column-requires
check_column-requires c = columns_are_there c.loop-column.column-index _ (omega arith)

pub returns-in_err-check_column : goal.returns-in_err-check_column
unfolding signature_checks
returns-in_err-check_column c =
    let p = err_from_is_err_and c.from_residual.result c.from_residual.ensures.1 in
    gives_on _ p.0 _ _ _ p.1 p.2 c.in_err-check_column.ensures
    (λ f fails. flat_failed (column_signature_checks c.args.tables.now) SIG_COLUMNS c.loop-column.column-index _ (omega arith) c.loop-column.invariant f fails)

pub loop-column-preserved : goal.loop-column-preserved
loop-column-preserved c =
    flat_passed (column_signature_checks c.args.tables.now) SIG_COLUMNS c.loop-column.column-index _ (omega arith) c.loop-column.invariant c.in_ok-check_column.ensures
