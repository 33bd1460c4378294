use Rattle.std.proofs.Common.{◌+◌, replicate, ◌∙◌, ap, arith, rules}
use Rattle.image_rows.proofs.Enclosing.{nesting_column, said_none, said_more, said_all}
use Rattle.image_rows.proofs.nesting.enclosing_rows.Goals as goal

pub loop-k-init : goal.loop-k-init
loop-k-init c =
    said_none c.args.tables.now c.row_count-k.result c.from_vec-rows.result c.row_count-k.ensures.exact
    (c.from_vec-rows.ensures ∙ c.in_ok-vec.ensures.items_if_clones_equal (λ y e. search rules)
    ∙ ap (λ n. replicate (n + 1) 0) c.row_count.ensures.exact)

pub cell-nested-requires : goal.cell-nested-requires
cell-nested-requires c = record { first = omega arith; last = omega arith; column = nesting_column 0 (omega arith) }

pub cell-enclosing-requires : goal.cell-enclosing-requires
cell-enclosing-requires c = record { first = omega arith; last = omega arith; column = nesting_column 1 (omega arith) }

pub loop-k-preserved : goal.loop-k-preserved
loop-k-preserved c =
    said_more c.args.tables.now _ _ _ _ c.loop-k.rows _ (omega arith) (omega arith) c.loop-k.invariant
    c.cell-nested.ensures c.cell-enclosing.ensures c.set_enclosing.ensures

pub returns : goal.returns
returns c = said_all c.args.tables.now c.loop-k.k c.loop-k.rows (omega arith) c.loop-k.invariant
