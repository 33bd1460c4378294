use Rattle.std.proofs.Common.{◌≡◌, length, slice_index, Ok, subst, arith}
use Rattle.std.proofs.lemmas.Result.{err_from_is_err_and}
use Rattle.clr_base.proofs.Checks.{each_none, each_passed, each_failed}
use Rattle.clr_base.specs.Checks.{first_fault, each}
use Rattle.image_rows.specs.Rows.{checked_tables, table_checks, rows_checks}
use Rattle.image_rows.proofs.Giving.{gives_on}
use Rattle.image_rows.proofs.rows.check_rows.Goals as goal

pub loop-table-init : goal.loop-table-init
loop-table-init c = each_none (λ k. table_checks c.args.tables.now (slice_index checked_tables k))

pub returns-in_err-check_table : goal.returns-in_err-check_table
unfolding rows_checks
returns-in_err-check_table c =
    let p = err_from_is_err_and c.from_residual-in_err-check_table.result c.from_residual-in_err-check_table.ensures.1 in
    gives_on _ p.0 _ _ _ p.1 p.2 c.in_err-check_table.ensures
    (λ f fails. each_failed c.loop-table.table-index (length checked_tables) (λ k. table_checks c.args.tables.now (slice_index checked_tables k)) (tt {0}) f (omega arith) c.loop-table.invariant fails)

pub loop-table-preserved : goal.loop-table-preserved
loop-table-preserved c = each_passed c.loop-table.table-index (λ k. table_checks c.args.tables.now (slice_index checked_tables k)) c.loop-table.invariant c.in_ok-check_table.ensures

pub returns : goal.returns
unfolding rows_checks
returns c =
    let all : c.loop-table.table-index ≡ length checked_tables = omega arith in
    subst (λ n. first_fault (each n (λ k. table_checks c.args.tables.now (slice_index checked_tables k))) ≡ Ok (tt {0})) all c.loop-table.invariant
