use Rattle.std.proofs.Common.{◌∙◌, sym, ap, subst}
use Rattle.std.proofs.lemmas.Result.{on_ok_weaker}
use Rattle.closed_walks.specs.Search.{state_at}
use Rattle.closed_walks.specs.Invariant.{Goes}
use Rattle.closed_walks.proofs.Work.{goes_enter, goes_join, goes_on, full}
use Rattle.closed_walks.proofs.steps.follow.Goals as goal

pub returns-in-Unseen : goal.returns-in-Unseen
returns-in-Unseen c =
    let g = c.args.graph.now in
    let s = c.args.search.now in
    let x = c.args.pending in
    let is = ap (λ l. state_at l x.edge.to) (sym c.as_slice.ensures) ∙ sym c.in-Unseen.ensures in
    on_ok_weaker c.enter.result (λ e. subst (Goes g (full g s x c.requires.known c.requires.last)) (sym e) (goes_enter g s x c.requires.known c.requires.last is)) c.enter.ensures

pub returns-in-Open : goal.returns-in-Open
returns-in-Open c =
    let is = ap (λ l. state_at l c.args.pending.edge.to) (sym c.as_slice.ensures) ∙ sym c.in-Open.ensures in
    goes_join c.args.graph.now c.args.search.now c.args.pending c.requires.known c.requires.last c.in-Open.place is c.join.new.starts c.join.ensures

pub returns-in-Done : goal.returns-in-Done
returns-in-Done c =
    let is = ap (λ l. state_at l c.args.pending.edge.to) (sym c.as_slice.ensures) ∙ sym c.in-Done.ensures in
    goes_on c.args.graph.now c.args.search.now c.args.pending c.requires.known c.requires.last c.in-Done.field-0 is
