use Rattle.std.proofs.Common.{replicate, ◌∙◌, ap, arith, rules}
use Rattle.image_rows.proofs.Runs.{owned_none, owned_more, owned_all}
use Rattle.image_rows.proofs.member_runs.owners.Goals as goal

pub loop-k-init : goal.loop-k-init
loop-k-init c =
    owned_none c.args.tables.now c.args.column c.args.table c.row_count-k.result c.from_vec-owners.result c.row_count-k.ensures.exact
    (c.from_vec-owners.ensures ∙ c.in_ok-vec.ensures.items_if_clones_equal (λ y e. search rules)
    ∙ ap (λ n. replicate n 0) c.row_count-count.ensures.exact)

pub loop-k-preserved : goal.loop-k-preserved
loop-k-preserved c =
    owned_more c.args.tables.now c.args.column c.args.table _ _ _ _ c.loop-k.owners _ (omega arith) (omega arith) c.loop-k.invariant
    c.cell-first.ensures c.run_end-end.ensures c.set_run.ensures.count c.set_run.ensures.each

pub returns : goal.returns
returns c = owned_all c.args.tables.now c.args.column c.args.table c.loop-k.k c.loop-k.owners (omega arith) c.loop-k.invariant
