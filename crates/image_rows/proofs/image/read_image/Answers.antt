use Rattle.std.proofs.Common.{sym}
use Rattle.std.proofs.lemmas.Result.{err_from_is_err_and}
use Rattle.image_rows.proofs.Giving.{gives_fault, gives_on}
use Rattle.image_rows.proofs.Inside.{tables_fail, rows_fail, signatures_fail, all_pass}
use Rattle.image_rows.proofs.image.read_image.Goals as goal

pub returns-in_err-tables-clause-exact : goal.returns-in_err-tables-clause-exact
returns-in_err-tables-clause-exact c =
    let p = err_from_is_err_and c.from_residual.result c.from_residual.ensures.1 in
    gives_fault _ p.0 _ _ p.1 p.2 (tables_fail c.args.bytes.now _ (sym c.in_err-tables.ensures))

pub returns-in_err-check_rows-clause-exact : goal.returns-in_err-check_rows-clause-exact
returns-in_err-check_rows-clause-exact c =
    let p = err_from_is_err_and c.from_residual-in_err-check_rows.result c.from_residual-in_err-check_rows.ensures.1 in
    gives_on _ p.0 _ _ _ p.1 p.2 c.in_err-check_rows.ensures (λ f fails. rows_fail c.args.bytes.now c.in_ok-tables.tables f (sym c.in_ok-tables.ensures) fails)

pub returns-in_err-check_signatures-clause-exact : goal.returns-in_err-check_signatures-clause-exact
returns-in_err-check_signatures-clause-exact c =
    let p = err_from_is_err_and c.from_residual-in_err-check_signatures.result c.from_residual-in_err-check_signatures.ensures.1 in
    gives_on _ p.0 _ _ _ p.1 p.2 c.in_err-check_signatures.ensures
    (λ f fails. signatures_fail c.args.bytes.now c.in_ok-tables.tables f (sym c.in_ok-tables.ensures) c.in_ok-check_rows.ensures fails)

pub returns-clause-exact : goal.returns-clause-exact
returns-clause-exact c = all_pass c.args.bytes.now c.in_ok-tables.tables (sym c.in_ok-tables.ensures) c.in_ok-check_rows.ensures c.in_ok-check_signatures.ensures
