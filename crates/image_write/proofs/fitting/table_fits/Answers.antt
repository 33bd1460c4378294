use Rattle.std.proofs.Common.{ℕ, List, length, ap, arith}
use Rattle.image_write.proofs.Sizes.{rows_inside}
use Rattle.image_write.proofs.fitting.table_fits.Goals as goal

pub overflow_mul-row_count : goal.overflow_mul-row_count
overflow_mul-row_count c =
    let inside = rows_inside c.args.draft.now c.args.table in
    let len = ap (λ (xs : List ℕ). length xs) c.cells_of-len.ensures in
    rw (c.row_count.ensures, c.columns_of.ensures) (omega arith)
