use Rattle.std.proofs.Common.{◌≡◌, Some, ◌∙◌, sym, ap, subst}
use Rattle.type_tree.specs.declared.tree.Key.{Key}
use Rattle.key_verdicts.specs.Verdicts.{IsVerdict, verdict_at}
use Rattle.type_judge.specs.Table.{local_told}
use Rattle.type_judge.proofs.Firsts.{local_is}
use Rattle.key_desk.proofs.Keeping.{key_here, pooled, node_below}
use Rattle.key_desk.proofs.work.judged.Goals as goal

pub judge_in-requires-clause-within : goal.judge_in-requires-clause-within
judge_in-requires-clause-within c = node_below c.args.work.now.pool c.args.work.now.keys c.args.key.0 c.get-node.result.now c.requires.right.within c.get-node.ensures

pub returns-in-Ok-clause-works : goal.returns-in-Ok-clause-works
returns-in-Ok-clause-works c = pooled c.args.world.now c.args.work.now c.judge_in.new.pool c.requires.right c.judge_in.ensures.grows c.judge_in.new.notes c.in-Ok.ensures.canonical c.in-Ok.ensures.right.1

pub returns-in-Ok-clause-verdict : goal.returns-in-Ok-clause-verdict
returns-in-Ok-clause-verdict c = λ k at.
    let w = c.args.world.now in let told = c.args.members.now.faults.faults.told in
    let found = verdict_at c.judge_in.new.pool c.in-Ok.judged in
    let is : _ ≡ k = some_key _ k (sym (key_here c.args.work.now.pool c.args.work.now.keys c.args.key.0 c.get-node.result.now c.get-node.ensures) ∙ at) in record {
      local = local_told told w;
      is = local_is told w c.requires.told;
      verdict = subst (λ (x : Key). IsVerdict (local_told told w) w x found) is c.in-Ok.ensures.verdict;
    }
  where
    some_key : (x y : Key) → Some x ≡ Some y → x ≡ y
    some_key x y e = cc

pub returns-in-Err-clause-works : goal.returns-in-Err-clause-works
returns-in-Err-clause-works c =
    pooled c.args.world.now c.args.work.now c.judge_in.new.pool c.requires.right c.judge_in.ensures.grows c.no_notes.result (c.no_notes.ensures.canonical c.args.world.now c.judge_in.new.pool) (c.no_notes.ensures.notes c.args.world.now c.judge_in.new.pool)
