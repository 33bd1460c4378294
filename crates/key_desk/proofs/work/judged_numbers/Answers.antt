use Rattle.std.proofs.Common.{◌≡◌, ◌∙◌, sym, List, subst}
use Rattle.type_pool.specs.declared.key_nodes.KeyNode.{KeyNode}
use Rattle.type_pool.specs.Keys.{key_at}
use Rattle.key_closure.specs.Bounds.{keys_at}
use Rattle.key_verdicts.specs.declared.judging.Judged.{Judged}
use Rattle.key_verdicts.specs.Verdicts.{verdict_at}
use Rattle.type_judge.specs.Judging.{IsJudged}
use Rattle.key_desk.specs.Desks.{keys_of, NameAll}
use Rattle.key_desk.proofs.Keeping.{works_on}
use Rattle.key_desk.proofs.work.judged_numbers.Goals as goal

pub returns-in_err-numbers-in-Good-clause-works : goal.returns-in_err-numbers-in-Good-clause-works
returns-in_err-numbers-in-Good-clause-works c = works_on c.args.world.now c.args.work.now c.judged.new.work c.numbers_of.new.work c.judged.ensures.works c.numbers_of.ensures.works

pub returns-in-Good-clause-works : goal.returns-in-Good-clause-works
returns-in-Good-clause-works c = works_on c.args.world.now c.args.work.now c.judged.new.work c.numbers_of.new.work c.judged.ensures.works c.numbers_of.ensures.works

pub returns-in-Good-clause-found : goal.returns-in-Good-clause-found
returns-in-Good-clause-found c = λ k at.
    let ts = c.judged.new.work.pool in let nodes = c.in-Good.nodes in (
      keys_at ts nodes,
      subst (λ (j : Judged). IsJudged c.args.world.now k (verdict_at ts j)) c.in-Good.is (c.in_ok-nodes.ensures.verdict k at),
      subst (λ (l : List KeyNode). NameAll (keys_of c.numbers_of.new.work) c.in_ok-numbers-in-Good.numbers (keys_at ts l)) c.as_slice.ensures c.in_ok-numbers-in-Good.ensures.named,
    )

pub returns-clause-found : goal.returns-clause-found
returns-clause-found c = λ k at.
    let ts = c.judged.new.work.pool in (
      key_at ts c.in-Refused.field-0,
      subst (λ (j : Judged). IsJudged c.args.world.now k (verdict_at ts j)) c.in-Refused.is (c.in_ok-nodes.ensures.verdict k at),
    )
