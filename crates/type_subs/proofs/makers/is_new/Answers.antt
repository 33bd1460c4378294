use Rattle.std.proofs.Common.{Bool, ◌||◌, ap, ◌∙◌, sym}
use Rattle.type_tree.specs.declared.tree.Ty.{Ty}
use Rattle.type_tree.specs.declared.tree.Ty.TheViews.{out-Ty}
use Rattle.type_pool.specs.Trees.{at}
use Rattle.type_subs.specs.Constraints.{is_new_class_at}
use Rattle.type_subs.proofs.LevelTests.{made-tree}
use Rattle.type_subs.proofs.makers.is_new.Goals as goal

pub returns-else-is_value : goal.returns-else-is_value
returns-else-is_value c =
    let w = c.args.world.now in let ts = c.args.pool.now in let t = at ts c.args.id in
    c.is_made_node.ensures ∙ (sym (made-tree w ts c.node.result.now) ∙ (ap (λ (u : Ty). is_new_class_at w (out-Ty u)) c.node.ensures.level
    ∙ sym (ap (λ (b : Bool). b || is_new_class_at w (out-Ty t)) (sym c.is_value.ensures ∙ c.if-is_value.false))))
