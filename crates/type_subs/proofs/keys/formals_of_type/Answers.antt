use Rattle.std.proofs.Common.{◌∙◌, ap, sym}
use Rattle.type_subs.specs.Constraints.{formals_of_type}
use Rattle.type_subs.proofs.LevelTests.{formals-tree}
use Rattle.type_subs.proofs.keys.formals_of_type.Goals as goal

pub returns : goal.returns
returns c =
    c.formals_of_node.ensures ∙ (sym (formals-tree c.args.world.now c.args.pool.now c.node.result.now) ∙ ap (formals_of_type c.args.world.now) c.node.ensures.level)
