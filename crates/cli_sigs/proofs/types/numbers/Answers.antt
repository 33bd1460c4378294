use Rattle.std.proofs.Common.{◌≡◌, ◌-◌, ap, arith, refl}
use Rattle.std.proofs.lemmas.Result.{err_from_is_err_and}
use Rattle.cli_sigs.specs.Compressed.{number_at}
use Rattle.cli_sigs.specs.Reading.{behind}
use Rattle.cli_sigs.specs.Types.{numbers_at}
use Rattle.cli_sigs.proofs.Repeats.{goes_past, fails_past, is_past, refused_behind}
use Rattle.cli_sigs.proofs.types.numbers.Goals as goal

pub loop-init : goal.loop-init
unfolding numbers_at
loop-init c =
    let count = c.in_ok-count.count in
    let all : count - 0 ≡ count = omega arith in
    rw (all, c.in_ok-count.ensures.exact) refl

pub returns-in_err-rest : goal.returns-in_err-rest
returns-in_err-rest c =
    let p = err_from_is_err_and c.from_residual-in_err-rest.result c.from_residual-in_err-rest.ensures.1 in
    rw (p.1, p.2) (fails_past number_at c.in_ok-count.count c.loop.counter c.loop.rest.now c.in_err-rest.field-0.0 (numbers_at c.args.bytes.now) c.loop-test.true (refused_behind c.in_err-rest.field-0.0 (number_at c.loop.rest.now) c.in_err-rest.ensures.exact) c.loop.invariant)

pub loop-preserved : goal.loop-preserved
loop-preserved c =
    goes_past number_at c.in_ok-count.count c.loop.counter c.loop.rest.now c.in_ok-rest.field-0.1.now (numbers_at c.args.bytes.now) c.loop-test.true (ap behind c.in_ok-rest.ensures.exact) c.loop.invariant

pub returns : goal.returns
returns c = is_past number_at c.in_ok-count.count c.loop.counter c.loop.rest.now (numbers_at c.args.bytes.now) c.loop-test.false c.loop.invariant
