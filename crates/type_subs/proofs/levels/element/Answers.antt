use Rattle.std.proofs.Common.{◌∙◌, ap, sym}
use Rattle.std.specs.Prelude.{option_map}
use Rattle.type_pool.specs.Trees.{at}
use Rattle.type_subs.specs.Levels.{element}
use Rattle.type_subs.proofs.LevelTests.{element-tree}
use Rattle.type_subs.proofs.levels.element.Goals as goal

pub returns-clause-is : goal.returns-clause-is
returns-clause-is c =
    let ts = c.args.pool.now in
    ap (option_map (at ts)) c.element_node.ensures ∙ (sym (element-tree ts c.node.result.now) ∙ ap element c.node.ensures.level)
