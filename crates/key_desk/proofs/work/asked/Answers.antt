use Rattle.std.proofs.Common.{◌≡◌, Some, ◌∙◌, ap}
use Rattle.std.proofs.lemmas.Result.{IfOk-weaker}
use Rattle.key_desk.proofs.Keeping.{works_on}
use Rattle.key_desk.proofs.work.asked.Goals as goal

pub put-requires-clause-node : goal.put-requires-clause-node
put-requires-clause-node c = c.in_ok-node.ensures.below

pub returns-clause-works : goal.returns-clause-works
returns-clause-works c = works_on c.args.world.now c.args.work.now c.asked_node.new.work c.put.new.work c.asked_node.ensures.works c.put.ensures.works

pub returns-clause-named : goal.returns-clause-named
returns-clause-named c = IfOk-weaker c.put.result _ _ (λ n named s at. named ∙ ap Some (c.in_ok-node.ensures.spells s at).is) c.put.ensures.named
