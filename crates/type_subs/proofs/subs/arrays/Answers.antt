use Rattle.std.proofs.Common.{Bool, Option, ap, ap₂, ◌∙◌, sym, subst}
use Rattle.std.specs.Prelude.{option_map}
use Rattle.type_tree.specs.declared.tree.Ty.{Ty}
use Rattle.type_pool.specs.Trees.{at}
use Rattle.type_subs.specs.Levels.{element}
use Rattle.type_subs.specs.Steps.{Decides}
use Rattle.type_subs.proofs.SubLemmas.{fits_where, by_elements, names_below}
use Rattle.type_subs.proofs.subs.arrays.Goals as goal

pub returns-in_default-clause-decides : goal.returns-in_default-clause-decides
returns-in_default-clause-decides c =
    let w = c.args.world.now in let ts = c.args.pool.now in let t = at ts c.args.id in let u = at ts c.args.other in
    let none = ap (option_map (at ts)) (sym c.in_default.is) ∙ c.element.ensures.is in
    sym (by_elements w t u ∙ ap (λ (o : Option Ty). fits_where w o (element u)) (sym none))

pub returns-in_default-element-clause-decides : goal.returns-in_default-element-clause-decides
returns-in_default-element-clause-decides c =
    let w = c.args.world.now in let ts = c.args.pool.now in let t = at ts c.args.id in let u = at ts c.args.other in
    let some = ap (option_map (at ts)) (sym c.in-Some.is) ∙ c.element.ensures.is in
    let none = ap (option_map (at ts)) (sym c.in_default-element.is) ∙ c.element-2.ensures.is in
    sym (by_elements w t u ∙ ap₂ (fits_where w) (sym some) (sym none))

pub returns-clause-decides : goal.returns-clause-decides
returns-clause-decides c =
    let w = c.args.world.now in let ts = c.args.pool.now in let t = at ts c.args.id in let u = at ts c.args.other in
    let some = ap (option_map (at ts)) (sym c.in-Some.is) ∙ c.element.ensures.is in
    let other = ap (option_map (at ts)) (sym c.in-Some-element.is) ∙ c.element-2.ensures.is in
    let is = by_elements w t u ∙ ap₂ (fits_where w) (sym some) (sym other) in
    subst (λ (b : Bool). Decides w ts b c.elements.result) (sym is) c.elements.ensures.decides

pub returns-clause-below : goal.returns-clause-below
returns-clause-below c = names_below c.args.id c.args.other c.in-Some.part c.in-Some-element.upper c.elements.result c.elements.ensures.names c.in-Some.ensures.below c.in-Some-element.ensures.below
