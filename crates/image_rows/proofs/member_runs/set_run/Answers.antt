use Rattle.std.proofs.Common.{◌≤◌, ◌+◌, ◌∙◌, Bool, ap, min, max, length, get_or, arith, if◌then◌else◌}
use Rattle.image_rows.proofs.Runs.{stopped_in}
use Rattle.image_rows.proofs.member_runs.set_run.Goals as goal

pub returns-clause-each : goal.returns-clause-each
returns-clause-each c = λ i d within.
    let stop : min c.args.end (length c.args.owners.now + 1) ≤ c.loop-row.row = omega (arith, c.min-stop.ensures, c.len.ensures) in
    let last : c.loop-row.row ≤ max (max c.args.first 1) (min c.args.end (length c.args.owners.now + 1)) =
    omega (arith, c.loop-row.invariant.last, c.max-start.ensures, c.min-stop.ensures, c.len.ensures) in
    c.loop-row.invariant.set.each i d within
    ∙ ap (λ (b : Bool). if b then c.args.owner else get_or c.args.owners.now i d)
    (stopped_in c.args.first c.args.end c.loop-row.row i (length c.args.owners.now) within stop last)
