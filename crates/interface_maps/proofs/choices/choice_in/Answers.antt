use Rattle.std.proofs.Common.{cond, None, ap, ◌∙◌, sym}
use Rattle.std.proofs.lemmas.Result.{IfOk-weaker}
use Rattle.type_tree.specs.declared.definition.Def.{Def}
use Rattle.type_pool.specs.Trees.{at}
use Rattle.interface_maps.specs.Choices.{choice}
use Rattle.interface_maps.specs.Maps.{above_of, own_of}
use Rattle.interface_maps.proofs.choices.choice_in.Goals as goal

pub returns-then-is_interface-clause-choice : goal.returns-then-is_interface-clause-choice
returns-then-is_interface-clause-choice c =
    let w = c.args.world.now in
    let d : Def = c.args.def.now in
    let one = choice w c.args.id.0 d (own_of w d) (above_of w d) (at c.args.pool.now c.args.tree) c.args.j c.args.method.0 in
    sym (ap (λ b. cond b None one) (sym c.is_interface.ensures ∙ c.if-is_interface.true))

pub returns-clause-choice : goal.returns-clause-choice
returns-clause-choice c =
    let w = c.args.world.now in
    let d : Def = c.args.def.now in
    let one = choice w c.args.id.0 d (own_of w d) (above_of w d) (at c.args.pool.now c.args.tree) c.args.j c.args.method.0 in
    IfOk-weaker c.choice_of.result _ _ (λ answer is. is c.args.id.0 d (own_of w d) (above_of w d) c.requires.known ∙ sym (ap (λ b. cond b None one) (sym c.is_interface.ensures ∙ c.if-is_interface.false)))
    c.choice_of.ensures.choice
