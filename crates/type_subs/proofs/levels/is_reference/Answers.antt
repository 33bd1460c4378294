use Rattle.std.proofs.Common.{◌∙◌, ap, sym}
use Rattle.type_tree.specs.Kinds.{is_reference}
use Rattle.type_pool.proofs.CanLemmas.{is_reference-tree}
use Rattle.type_subs.proofs.levels.is_reference.Goals as goal

pub returns : goal.returns
returns c = c.is_reference_node.ensures ∙ (sym (is_reference-tree c.args.world.now c.args.pool.now c.node.result.now) ∙ ap (is_reference c.args.world.now) c.node.ensures.level)
