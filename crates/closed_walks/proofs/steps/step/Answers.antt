use Rattle.std.proofs.Common.{◌∙◌, sym, subst, arith, List}
use Rattle.std.proofs.lemmas.Result.{on_ok_weaker}
use Rattle.closed_walks.specs.declared.search.Pending.{Pending}
use Rattle.closed_walks.specs.Invariant.{IsSearch, Goes, with_pending}
use Rattle.closed_walks.proofs.Orders.{most_start, last_start}
use Rattle.closed_walks.proofs.Work.{goes_close}
use Rattle.closed_walks.proofs.steps.step.Goals as goal

pub follow-requires-clause-known : goal.follow-requires-clause-known
follow-requires-clause-known c = subst (λ (l : List Pending). IsSearch c.args.graph.now (with_pending c.args.search.now l)) c.in-Some.ensures.0 c.requires.known

pub follow-requires-clause-last : goal.follow-requires-clause-last
follow-requires-clause-last c = λ q has.
    let le = most_start c.args.search.now.starts c.args.start c.requires.known.rising c.requires.last q has in
    let at = c.in-Some.ensures.1 in
    omega arith

pub close-requires-clause-within : goal.close-requires-clause-within
close-requires-clause-within c = c.requires.known.starts_in c.args.start (last_start c.args.search.now.starts c.args.start c.requires.last)

pub returns-in-Some : goal.returns-in-Some
returns-in-Some c = on_ok_weaker c.follow.result (λ g. subst (λ (l : List Pending). Goes c.args.graph.now (with_pending c.args.search.now l) c.follow.new.search) (sym c.in-Some.ensures.0) g) c.follow.ensures

pub returns-in-None : goal.returns-in-None
returns-in-None c =
    let e = c.close.ensures in
    goes_close c.args.graph.now c.args.search.now c.close.new.search c.requires.known c.args.start c.in-None.ensures.1
    (record { states = e.states; path = e.path; starts = e.starts; pending = e.pending ∙ c.in-None.ensures.0 })
