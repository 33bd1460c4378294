use Rattle.std.proofs.Common.{◌∙◌, sym, ap, subst, map, arith}
use Rattle.std.proofs.lemmas.Result.{IfOk-weaker}
use Rattle.closed_walks.specs.Search.{answer}
use Rattle.closed_walks.specs.Walks.{AreFound}
use Rattle.closed_walks.specs.Invariant.{IsSearch}
use Rattle.closed_walks.proofs.Whole.{begun_keeps, all_found}
use Rattle.closed_walks.proofs.walks.closed_walks.Goals as goal

pub loop-node-init : goal.loop-node-init
loop-node-init c = record {
  known = subst (IsSearch c.args.graph.now) (sym c.in_ok-search.ensures) (begun_keeps c.args.graph.now);
  idle = ap (λ s. s.starts) c.in_ok-search.ensures;
  seen = λ n lt is. absurd (omega arith);
}

pub returns : goal.returns
returns c =
    let k = c.loop-node in
    let all = all_found c.args.graph.now k.search k.invariant.known k.invariant.idle (λ n lt. k.invariant.seen n (omega arith)) in
    IfOk-weaker c.answers.result _ _ (λ f e. subst (AreFound c.args.graph.now) (ap (map answer) (sym c.as_slice.ensures) ∙ sym e) all) c.answers.ensures
