use Rattle.std.proofs.lemmas.Result.{err_from_is_err_and}
use Rattle.cli_sigs.specs.Marks.{past_marks}
use Rattle.cli_sigs.proofs.MarkRuns.{goes_past, ends, fails}
use Rattle.cli_sigs.proofs.marks.marks.Goals as goal

pub returns-in_err-after : goal.returns-in_err-after
returns-in_err-after c =
    let p = err_from_is_err_and c.from_residual.result c.from_residual.ensures.1 in
    let counts = c.args.counts.now in
    rw (p.1, p.2) (fails counts c.args.what c.in_err-after.field-0.0 c.loop-after.rest.now (past_marks counts c.args.what c.args.bytes.now) c.loop-after.invariant c.in_err-after.ensures.exact)

pub loop-after-preserved : goal.loop-after-preserved
loop-after-preserved c =
    let counts = c.args.counts.now in
    goes_past counts c.args.what c.loop-after.rest.now c.in-Some.after.now (past_marks counts c.args.what c.args.bytes.now) c.loop-after.invariant (rw c.in-Some.is at c.in_ok-after.ensures.exact) (rw c.in-Some.is at c.in_ok-after.ensures.shorter)

pub returns : goal.returns
returns c =
    let counts = c.args.counts.now in
    ends counts c.args.what c.loop-after.rest.now (past_marks counts c.args.what c.args.bytes.now) c.loop-after.invariant (rw c.in_default.is at c.in_ok-after.ensures.exact)
