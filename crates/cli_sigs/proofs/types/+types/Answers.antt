use Rattle.std.proofs.Common.{sym}
use Rattle.std.proofs.lemmas.List.{take_rest}
use Rattle.std.proofs.lemmas.Result.{err_from_is_err_and}
use Rattle.cli_sigs.specs.Reading.{repeated}
use Rattle.cli_sigs.specs.Types as spec
use Rattle.cli_sigs.specs.Types.{param_at}
use Rattle.cli_sigs.proofs.Repeats.{goes_on, fails, is_done}
use Rattle.cli_sigs.proofs.Levels.{simple_first, constructor_first}
use Rattle.cli_sigs.proofs.types.+types.Goals as goal

pub types-returns-in_err-one : goal.types-returns-in_err-one
types-returns-in_err-one t c =
    let one = spec.type_at c.args.counts.now c.args.levels in
    let p = err_from_is_err_and c.from_residual.result c.from_residual.ensures.1 in
    rw (p.1, p.2) (fails one c.args.count c.loop.counter c.loop.rest.now c.in_err-one.field-0.0 c.loop.list (repeated one c.args.count c.args.bytes.now) c.loop-test.true c.in_err-one.ensures c.loop.invariant)

pub types-loop-preserved : goal.types-loop-preserved
types-loop-preserved t c =
    let one = spec.type_at c.args.counts.now c.args.levels in
    rw c.in_ok-push.ensures.ok (goes_on one c.args.count c.loop.counter c.loop.rest.now c.loop.list c.in_ok-one.one c.in_ok-one.after.now (repeated one c.args.count c.args.bytes.now) c.loop-test.true c.in_ok-one.ensures c.loop.invariant)

pub types-returns : goal.types-returns
types-returns t c =
    let one = spec.type_at c.args.counts.now c.args.levels in
    is_done one c.args.count c.loop.counter c.loop.rest.now c.loop.list (repeated one c.args.count c.args.bytes.now) c.loop-test.false c.loop.invariant

pub params-returns-in_err-one : goal.params-returns-in_err-one
unfolding param_at
params-returns-in_err-one t c =
    let one = param_at c.args.counts.now (spec.type_at c.args.counts.now c.args.levels) in
    let p = err_from_is_err_and c.from_residual.result c.from_residual.ensures.1 in
    rw (p.1, p.2) (fails one c.args.count c.loop.counter c.loop.rest.now c.in_err-one.field-0.0 c.loop.list (repeated one c.args.count c.args.bytes.now) c.loop-test.true (rw c.past_sentinel.ensures at c.in_err-one.ensures) c.loop.invariant)

pub params-loop-preserved : goal.params-loop-preserved
unfolding param_at
params-loop-preserved t c =
    let one = param_at c.args.counts.now (spec.type_at c.args.counts.now c.args.levels) in
    rw c.in_ok-push.ensures.ok (goes_on one c.args.count c.loop.counter c.loop.rest.now c.loop.list c.in_ok-one.one c.in_ok-one.after.now (repeated one c.args.count c.args.bytes.now) c.loop-test.true (rw c.past_sentinel.ensures at c.in_ok-one.ensures) c.loop.invariant)

pub params-returns : goal.params-returns
params-returns t c =
    let one = param_at c.args.counts.now (spec.type_at c.args.counts.now c.args.levels) in
    is_done one c.args.count c.loop.counter c.loop.rest.now c.loop.list (repeated one c.args.count c.args.bytes.now) c.loop-test.false c.loop.invariant

pub type_of-returns-in-Some : goal.type_of-returns-in-Some
type_of-returns-in-Some t c =
    rw (simple_first c.args.counts.now c.args.levels c.args.bytes.now c.in-Some.simple c.in-len1-up.len_at_least (sym c.in-Some.ensures)) (rw (take_rest c.args.bytes.now 1) at c.simple_type.ensures)

pub type_of-returns-in-Some-constructor_of : goal.type_of-returns-in-Some-constructor_of
type_of-returns-in-Some-constructor_of t c =
    rw (constructor_first c.args.counts.now c.args.levels c.args.bytes.now c.in-Some-constructor_of.constructor c.in-len1-up.len_at_least (sym c.in_default-simple_of.ensures) (sym c.in-Some-constructor_of.ensures) c.if-levels-gt0.true) (rw (take_rest c.args.bytes.now 1) at c.constructed.ensures)
