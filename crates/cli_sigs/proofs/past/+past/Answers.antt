use Rattle.std.proofs.Common.{sym}
use Rattle.std.proofs.lemmas.List.{take_rest}
use Rattle.std.proofs.lemmas.Result.{err_from_is_err_and}
use Rattle.cli_sigs.specs.Reading.{behind, repeated}
use Rattle.cli_sigs.specs.Types as spec
use Rattle.cli_sigs.specs.Types.{param_at}
use Rattle.cli_sigs.proofs.Repeats.{goes_past, fails_past, is_past}
use Rattle.cli_sigs.proofs.Levels.{simple_first, constructor_first}
use Rattle.cli_sigs.proofs.past.+past.Goals as goal

pub past_types-returns-in_err-rest : goal.past_types-returns-in_err-rest
past_types-returns-in_err-rest t c =
    let one = spec.type_at c.args.counts.now c.args.levels in
    let p = err_from_is_err_and c.from_residual.result c.from_residual.ensures.1 in
    rw (p.1, p.2) (fails_past one c.args.count c.loop.counter c.loop.rest.now c.in_err-rest.field-0.0 (behind (repeated one c.args.count c.args.bytes.now)) c.loop-test.true c.in_err-rest.ensures c.loop.invariant)

pub past_types-loop-preserved : goal.past_types-loop-preserved
past_types-loop-preserved t c =
    let one = spec.type_at c.args.counts.now c.args.levels in
    goes_past one c.args.count c.loop.counter c.loop.rest.now c.in_ok-rest.rest.now (behind (repeated one c.args.count c.args.bytes.now)) c.loop-test.true c.in_ok-rest.ensures c.loop.invariant

pub past_types-returns : goal.past_types-returns
past_types-returns t c =
    let one = spec.type_at c.args.counts.now c.args.levels in
    is_past one c.args.count c.loop.counter c.loop.rest.now (behind (repeated one c.args.count c.args.bytes.now)) c.loop-test.false c.loop.invariant

pub past_params-returns-in_err-rest : goal.past_params-returns-in_err-rest
unfolding param_at
past_params-returns-in_err-rest t c =
    let one = param_at c.args.counts.now (spec.type_at c.args.counts.now c.args.levels) in
    let p = err_from_is_err_and c.from_residual.result c.from_residual.ensures.1 in
    rw (p.1, p.2) (fails_past one c.args.count c.loop.counter c.loop.rest.now c.in_err-rest.field-0.0 (behind (repeated one c.args.count c.args.bytes.now)) c.loop-test.true (rw c.past_sentinel.ensures at c.in_err-rest.ensures) c.loop.invariant)

pub past_params-loop-preserved : goal.past_params-loop-preserved
unfolding param_at
past_params-loop-preserved t c =
    let one = param_at c.args.counts.now (spec.type_at c.args.counts.now c.args.levels) in
    goes_past one c.args.count c.loop.counter c.loop.rest.now c.in_ok-rest.rest.now (behind (repeated one c.args.count c.args.bytes.now)) c.loop-test.true (rw c.past_sentinel.ensures at c.in_ok-rest.ensures) c.loop.invariant

pub past_params-returns : goal.past_params-returns
past_params-returns t c =
    let one = param_at c.args.counts.now (spec.type_at c.args.counts.now c.args.levels) in
    is_past one c.args.count c.loop.counter c.loop.rest.now (behind (repeated one c.args.count c.args.bytes.now)) c.loop-test.false c.loop.invariant

pub past_type-returns-in-Some : goal.past_type-returns-in-Some
past_type-returns-in-Some t c =
    rw (simple_first c.args.counts.now c.args.levels c.args.bytes.now c.in-Some.simple c.in-len1-up.len_at_least (sym c.in-Some.ensures)) (rw (take_rest c.args.bytes.now 1) at c.past_simple.ensures)

pub past_type-returns-in-Some-constructor_of : goal.past_type-returns-in-Some-constructor_of
past_type-returns-in-Some-constructor_of t c =
    rw (constructor_first c.args.counts.now c.args.levels c.args.bytes.now c.in-Some-constructor_of.constructor c.in-len1-up.len_at_least (sym c.in_default-simple_of.ensures) (sym c.in-Some-constructor_of.ensures) c.if-levels-gt0.true) (rw (take_rest c.args.bytes.now 1) at c.past_constructed.ensures)
