use Rattle.std.proofs.Common.{sym, subst}
use Rattle.std.proofs.lemmas.Result.{IfOk-weaker}
use Rattle.type_tree.specs.declared.tree.Key.{Key}
use Rattle.key_verdicts.specs.declared.verdict.Verdict.{Verdict}
use Rattle.key_verdicts.specs.Verdicts.{verdict_at, IsVerdict}
use Rattle.type_judge.specs.Table.{local_told}
use Rattle.type_judge.proofs.Firsts.{local_is}
use Rattle.type_judge.proofs.judging.judge.Goals as goal

pub judge_in-requires-clause-right : goal.judge_in-requires-clause-right
judge_in-requires-clause-right c = (c.in_ok-told.ensures, c.new-2.ensures c.args.world.now c.from_key.new.pool)

pub returns : goal.returns
returns c =
    let w = c.args.world.now in let key = c.args.key.now in let told = c.in_ok-told.told in
    let local = local_told told w in
    let found = verdict_at c.judge_in.new.pool c.in_ok-judged.judged in
    let is : IsVerdict local w key found = subst (λ (k : Key). IsVerdict local w k found) c.in_ok-node.ensures.spells.is c.in_ok-judged.ensures.verdict in
    IfOk-weaker c.verdict_of.result _ _
    (λ verdict e. record { local = local; is = local_is told w c.in_ok-told.ensures; verdict = subst (λ (v : Verdict). IsVerdict local w key v) (sym e) is })
    c.verdict_of.ensures
