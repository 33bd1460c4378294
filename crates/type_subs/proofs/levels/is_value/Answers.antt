use Rattle.std.proofs.Common.{◌∙◌, ap, sym}
use Rattle.type_tree.specs.Kinds.{is_value}
use Rattle.type_subs.proofs.LevelTests.{is_value-tree}
use Rattle.type_subs.proofs.levels.is_value.Goals as goal

pub returns : goal.returns
returns c = c.is_value_node.ensures ∙ (sym (is_value-tree c.args.world.now c.args.pool.now c.node.result.now) ∙ ap (is_value c.args.world.now) c.node.ensures.level)
