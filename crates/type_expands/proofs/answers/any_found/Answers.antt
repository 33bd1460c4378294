use Rattle.std.proofs.Common.{◌≡◌, ◌+◌, ◌∙◌, ap, sym, true, false, arith}
use Rattle.type_expands.specs.Expands as spec
use Rattle.type_expands.proofs.Deciding.{any_in, any_more}
use Rattle.type_expands.proofs.answers.any_found.Goals as goal

pub returns-then-found_at : goal.returns-then-found_at
returns-then-found_at c =
    let k = c.loop-n in
    let at : spec.found_at c.args.found.now (c.args.span.first + k.n) ≡ true = ap (spec.found_at c.args.found.now) (sym c.in_ok-sum_of.ensures) ∙ sym c.if-found_at.ensures in
    sym (any_in c.args.found.now c.args.span k.n (omega arith) at)

pub loop-n-preserved : goal.loop-n-preserved
loop-n-preserved c =
    let k = c.loop-n in
    let at : spec.found_at c.args.found.now (c.args.span.first + k.n) ≡ false = ap (spec.found_at c.args.found.now) (sym c.in_ok-sum_of.ensures) ∙ sym c.if-found_at.ensures in
    any_more c.args.found.now c.args.span k.n k.invariant at
