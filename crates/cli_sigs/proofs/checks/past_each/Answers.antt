use Rattle.std.proofs.lemmas.Result.{err_from_is_err_and}
use Rattle.cli_sigs.specs.Reading.{behind, repeated}
use Rattle.cli_sigs.specs.Signatures.{local_at}
use Rattle.cli_sigs.proofs.Repeats.{goes_past, fails_past, is_past}
use Rattle.cli_sigs.proofs.checks.past_each.Goals as goal

pub returns-in_err-rest : goal.returns-in_err-rest
returns-in_err-rest c =
    let one = local_at c.args.counts.now in
    let p = err_from_is_err_and c.from_residual.result c.from_residual.ensures.1 in
    rw (p.1, p.2) (fails_past one c.args.count c.loop.counter c.loop.rest.now c.in_err-rest.field-0.0 (behind (repeated one c.args.count c.args.bytes.now)) c.loop-test.true c.in_err-rest.ensures c.loop.invariant)

pub loop-preserved : goal.loop-preserved
loop-preserved c =
    let one = local_at c.args.counts.now in
    goes_past one c.args.count c.loop.counter c.loop.rest.now c.in_ok-rest.rest.now (behind (repeated one c.args.count c.args.bytes.now)) c.loop-test.true c.in_ok-rest.ensures c.loop.invariant

pub returns : goal.returns
returns c =
    let one = local_at c.args.counts.now in
    is_past one c.args.count c.loop.counter c.loop.rest.now (behind (repeated one c.args.count c.args.bytes.now)) c.loop-test.false c.loop.invariant
