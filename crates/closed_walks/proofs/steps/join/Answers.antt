use Rattle.std.proofs.Common.{◌∙◌, sym}
use Rattle.closed_walks.proofs.Orders.{cut_at, cut_pop}
use Rattle.closed_walks.proofs.steps.join.Goals as goal

pub returns-then-start-place : goal.returns-then-start-place
returns-then-start-place c =
    cut_at c.args.place c.args.starts.now c.loop-start.starts c.in-Some.start c.loop-start.invariant (c.in-Some.ensures.0, sym c.as_slice.ensures ∙ c.in-Some.ensures.1) c.if-start-place.true

pub loop-start-preserved : goal.loop-start-preserved
loop-start-preserved c =
    cut_pop c.args.place c.args.starts.now c.loop-start.starts c.pop.new.self c.in-Some.start c.pop.result (c.in-Some.ensures.0, sym c.as_slice.ensures ∙ c.in-Some.ensures.1) c.if-start-place.false c.pop.ensures c.loop-start.invariant
