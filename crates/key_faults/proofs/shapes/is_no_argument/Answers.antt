use Rattle.std.proofs.Common.{◌∙◌}
use Rattle.type_pool.specs.Trees.{at}
use Rattle.key_faults.specs.Shapes.{is_no_argument_at}
use Rattle.key_faults.proofs.LevelLemmas.{by_level}
use Rattle.key_faults.proofs.shapes.is_no_argument.Goals as goal

pub returns : goal.returns
returns c = let ts = c.args.pool.now in c.no_argument_at.ensures ts ∙ by_level is_no_argument_at ts (at ts c.args.id) c.node.result.now c.node.ensures.level
