use Rattle.std.proofs.Common.{length, ◌∙◌, arith}
use Rattle.type_pool.specs.Trees.{at}
use Rattle.type_pool.proofs.Levels.{parts_below-more}
use Rattle.key_faults.specs.Shapes.{has_bad_argument_at}
use Rattle.key_faults.proofs.LevelLemmas.{by_level}
use Rattle.key_faults.proofs.shapes.tree_bad_argument.Goals as goal

pub bad_argument_at-requires : goal.bad_argument_at-requires
bad_argument_at-requires c = parts_below-more c.args.id.0 (length c.args.pool.now) c.node.result.now (omega arith) c.node.ensures.below

pub returns : goal.returns
returns c = let ts = c.args.pool.now in c.bad_argument_at.ensures ∙ by_level has_bad_argument_at ts (at ts c.args.id) c.node.result.now c.node.ensures.level
