use Rattle.std.proofs.Common.{sym, ◌∙◌, ap, Err}
use Rattle.std.proofs.lemmas.Result.{err_from_is_err_and}
use Rattle.cli_tables.proofs.Walk.{header_failed}
use Rattle.cli_tables.proofs.streams.read_streams.Goals as goal

pub returns-in_err-at-clause-exact : goal.returns-in_err-at-clause-exact
returns-in_err-at-clause-exact c =
    let p = err_from_is_err_and c.from_residual.result c.from_residual.ensures.1 in
    p.1 ∙ ap (λ z. Err z) p.2 ∙ sym (header_failed c.args.meta.now c.args.first c.loop.counter c.args.count c.loop.at _ c.loop.streams _ _ c.loop-test.true
    c.loop.invariant.passed c.loop.invariant.at c.loop.invariant.streams (sym c.in_err-at.ensures.exact))
