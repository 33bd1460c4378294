use Rattle.std.proofs.Common.{arith}
use Rattle.std.proofs.lemmas.Result.{IfOk-weaker}
use Rattle.type_pool.specs.Trees.{at}
use Rattle.type_subs.proofs.LevelTests.{arguments_spell}
use Rattle.type_subs.proofs.keys.arguments.Goals as goal

pub returns : goal.returns
returns c =
    let ts = c.args.pool.now in
    IfOk-weaker c.parts_of.result _ _
    (λ ids same. arguments_spell ts c.node.result.now c.args.id.0 (at ts c.args.id) ids (omega arith) c.node.ensures.below c.node.ensures.level same)
    c.parts_of.ensures
