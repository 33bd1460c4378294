use Rattle.std.proofs.Common.{◌∙◌}
use Rattle.type_pool.specs.Trees.{at}
use Rattle.key_faults.specs.Definitions.{def_at}
use Rattle.key_faults.proofs.LevelLemmas.{by_level}
use Rattle.key_faults.proofs.heads.def_in.Goals as goal

pub returns : goal.returns
returns c = let ts = c.args.pool.now in c.def_at.ensures ts ∙ by_level (def_at c.args.world.now) ts (at ts c.args.id) c.node.result.now c.node.ensures.level
