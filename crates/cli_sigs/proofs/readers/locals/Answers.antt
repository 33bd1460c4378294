use Rattle.std.proofs.lemmas.Result.{err_from_is_err_and}
use Rattle.cli_sigs.specs.Signatures.{local_at, locals_at}
use Rattle.cli_sigs.proofs.Repeats.{goes_on, fails, is_done}
use Rattle.cli_sigs.proofs.readers.locals.Goals as goal

pub returns-in_err-one : goal.returns-in_err-one
returns-in_err-one c =
    let one = local_at c.args.counts.now in
    let p = err_from_is_err_and c.from_residual-in_err-one.result c.from_residual-in_err-one.ensures.1 in
    rw (p.1, p.2) (fails one c.in_ok-count.count c.loop.counter c.loop.rest.now c.in_err-one.field-0.0 c.loop.list (locals_at c.args.counts.now c.args.bytes.now) c.loop-test.true c.in_err-one.ensures c.loop.invariant)

pub loop-preserved : goal.loop-preserved
loop-preserved c =
    let one = local_at c.args.counts.now in
    rw c.in_ok-push.ensures.ok (goes_on one c.in_ok-count.count c.loop.counter c.loop.rest.now c.loop.list c.in_ok-one.one c.in_ok-one.after.now (locals_at c.args.counts.now c.args.bytes.now) c.loop-test.true c.in_ok-one.ensures c.loop.invariant)

pub returns : goal.returns
returns c =
    let one = local_at c.args.counts.now in
    is_done one c.in_ok-count.count c.loop.counter c.loop.rest.now c.loop.list (locals_at c.args.counts.now c.args.bytes.now) c.loop-test.false c.loop.invariant
