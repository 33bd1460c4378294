use Rattle.std.proofs.Common.{◌∙◌}
use Rattle.type_pool.specs.Trees.{at}
use Rattle.key_faults.specs.Shapes.{is_outside_at}
use Rattle.key_faults.proofs.LevelLemmas.{by_level}
use Rattle.key_faults.proofs.shapes.is_outside.Goals as goal

pub returns : goal.returns
returns c = let ts = c.args.pool.now in c.outside_at.ensures ts ∙ by_level is_outside_at ts (at ts c.args.id) c.node.result.now c.node.ensures.level
