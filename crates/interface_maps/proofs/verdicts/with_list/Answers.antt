use Rattle.std.proofs.Common.{◌≡◌, ◌∙◌, [], None, ap, length, unwrap_or, sym, subst}
use Rattle.std.proofs.lemmas.Result.{IfOk-weaker}
use Rattle.type_pool.specs.Trees.{at_all, ids_below}
use Rattle.method_slots.specs.Chains.{longest_chain}
use Rattle.slot_chains.specs.Answers.{IsAnswer}
use Rattle.interface_lists.specs.Lists.{interfaces}
use Rattle.interface_lists.specs.Walks.{IdsAre}
use Rattle.interface_maps.specs.Maps.{interfaces_of}
use Rattle.interface_maps.proofs.verdicts.with_list.Goals as goal

pub slots_at-requires-clause-interfaces : goal.slots_at-requires-clause-interfaces
slots_at-requires-clause-interfaces c =
    let ts = c.args.pool.now in
    let listed = subst (λ o. IdsAre ts o (interfaces longest_chain c.args.world.now c.args.id.0)) c.in-Some.is c.requires.map.list in
    ap (ids_below (length ts)) c.as_slice.ensures ∙ listed.2.within

pub returns-in-Some-clause-answer : goal.returns-in-Some-clause-answer
returns-in-Some-clause-answer c =
    let ts = c.args.pool.now in
    let w = c.args.world.now in
    let n = c.args.id.0 in
    let listed = subst (λ o. IdsAre ts o (interfaces longest_chain w n)) c.in-Some.is c.requires.map.list in
    let are : at_all ts c.as_slice.result.now ≡ interfaces_of w n = ap (at_all ts) c.as_slice.ensures ∙ listed.2.are ∙ sym (ap (λ o. unwrap_or o []) listed.1) in
    IfOk-weaker c.slots_at.result _ _ (λ answer is. subst (λ us. IsAnswer w n us answer) are is) c.slots_at.ensures.answer

pub returns-in-None-clause-answer : goal.returns-in-None-clause-answer
returns-in-None-clause-answer c =
    let ts = c.args.pool.now in
    let w = c.args.world.now in
    let n = c.args.id.0 in
    let none : interfaces longest_chain w n ≡ None = subst (λ o. IdsAre ts o (interfaces longest_chain w n)) c.in-None.is c.requires.map.list in
    let are : [] ≡ interfaces_of w n = sym (ap (λ o. unwrap_or o []) none) in
    IfOk-weaker c.slots_at-in-None.result _ _ (λ answer is. subst (λ us. IsAnswer w n us answer) are is) c.slots_at-in-None.ensures.answer
