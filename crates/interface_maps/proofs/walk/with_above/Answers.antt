use Rattle.std.proofs.Common.{◌≡◌, ◌∙◌, [], List, Some, None, ap, map, length, unwrap_or, sym, subst}
use Rattle.type_tree.specs.declared.definition.Def.{Def}
use Rattle.type_tree.specs.declared.tree.Ty.{Ty}
use Rattle.type_pool.specs.declared.nodes.Id.{Id}
use Rattle.type_pool.specs.Trees.{at_all, ids_below}
use Rattle.type_pool.proofs.JobLemmas.{at_all-grown, below-grown, grows_trans, spell_all-grown}
use Rattle.method_slots.specs.Chains.{longest_chain}
use Rattle.interface_lists.specs.Lists.{from_parent, interfaces, with_own}
use Rattle.interface_lists.specs.Walks.{IdsAre}
use Rattle.interface_maps.specs.Choices.{Answered, answered, answers}
use Rattle.interface_maps.specs.Found.{AreFound}
use Rattle.interface_maps.specs.Maps.{above_of, interfaces_of, own_of}
use Rattle.interface_maps.proofs.ChainLemmas.{answers-are}
use Rattle.interface_maps.proofs.MapLemmas.{base-grown, ids-grown}
use Rattle.interface_maps.proofs.walk.with_above.Goals as goal

pub inherited-requires : goal.inherited-requires
inherited-requires c = below-grown c.args.pool.now c.list_of.new.pool c.in_ok-list.ensures.grows c.args.above.now c.requires.above.below

pub answer_list-requires-clause-base : goal.answer_list-requires-clause-base
answer_list-requires-clause-base c =
    let g = grows_trans c.args.pool.now c.list_of.new.pool c.inherited.new.pool c.in_ok-list.ensures.grows c.in_ok-trees.ensures.grows in
    base-grown c.args.pool.now c.inherited.new.pool g c.args.world.now c.args.slots.now c.args.id.0 c.args.def.now c.requires.base

pub answer_list-requires-clause-above : goal.answer_list-requires-clause-above
answer_list-requires-clause-above c =
    let p0 = c.args.pool.now in
    let p1 = c.list_of.new.pool in
    let p2 = c.inherited.new.pool in
    let d : Def = c.args.def.now in
    let spells = c.in_ok-trees.ensures.spells in
    let same : at_all p1 c.args.above.now ≡ at_all p0 c.args.above.now = at_all-grown p0 p1 c.in_ok-list.ensures.grows c.args.above.now c.requires.above.below in
    record {
      interfaces = record {
        within = ap (ids_below (length p2)) c.as_slice-trees.ensures ∙ spells.within;
        are = ap (at_all p2) c.as_slice-trees.ensures ∙ spells.are ∙ ap (from_parent d.parent) same ∙ sym c.requires.above.trees;
      };
      choices = c.requires.above.choices;
    }

pub answer_list-requires-clause-list : goal.answer_list-requires-clause-list
answer_list-requires-clause-list c =
    let p1 = c.list_of.new.pool in
    let p2 = c.inherited.new.pool in
    let w = c.args.world.now in
    let d : Def = c.args.def.now in
    let given : IdsAre p1 (Some c.in-Some.ids) (with_own w d (from_parent d.parent (at_all c.args.pool.now c.args.above.now))) =
    subst (λ o. IdsAre p1 o (with_own w d (from_parent d.parent (at_all c.args.pool.now c.args.above.now)))) c.in-Some.is c.in_ok-list.ensures.list in
    ap (ids_below (length p2)) c.as_slice-all.ensures ∙ below-grown p1 p2 c.in_ok-trees.ensures.grows c.in-Some.ids given.2.within

pub returns-in-Some-clause-level : goal.returns-in-Some-clause-level
returns-in-Some-clause-level c =
    let w = c.args.world.now in
    let n = c.args.id.0 in
    let d : Def = c.args.def.now in
    let p1 = c.list_of.new.pool in
    let p2 = c.inherited.new.pool in
    let p3 = c.answer_list.new.pool in
    let made = c.in_ok-found-in-Some.ensures in
    let ids : List Id = c.in-Some.ids in
    let listed : IdsAre p1 (Some ids) (interfaces longest_chain w n) = subst (λ l. IdsAre p1 (Some ids) l) (sym c.requires.above.list) (subst (λ o. IdsAre p1 o (with_own w d (from_parent d.parent (at_all c.args.pool.now c.args.above.now)))) c.in-Some.is c.in_ok-list.ensures.list) in
    let us : List Ty = listed.0 in
    let f : Ty → Answered = answered w n d (own_of w d) (above_of w d) in
    let spelled = spell_all-grown p1 p2 c.in_ok-trees.ensures.grows ids us listed.2 in
    let are : at_all p2 c.as_slice-all.result.now ≡ interfaces_of w n = ap (at_all p2) c.as_slice-all.ensures ∙ spelled.are ∙ sym (ap (λ o. unwrap_or o []) listed.1) in
    record {
      list = ids-grown p1 p3 (grows_trans p1 p2 p3 c.in_ok-trees.ensures.grows made.grows) (Some ids) (interfaces longest_chain w n) listed;
      found = subst (AreFound p3 c.in_ok-found-in-Some.found) (ap (map f) are ∙ sym (answers-are w n d c.requires.base.here c.requires.base.within)) made.found;
    }

pub returns-clause-level : goal.returns-clause-level
returns-clause-level c =
    let w = c.args.world.now in
    let n = c.args.id.0 in
    let d : Def = c.args.def.now in
    let p1 = c.list_of.new.pool in
    let p2 = c.inherited.new.pool in
    let none : interfaces longest_chain w n ≡ None = c.requires.above.list ∙ subst (λ o. IdsAre p1 o (with_own w d (from_parent d.parent (at_all c.args.pool.now c.args.above.now)))) c.in-None.is c.in_ok-list.ensures.list in
    let f : Ty → Answered = answered w n d (own_of w d) (above_of w d) in
    let empty : answers longest_chain w n ≡ [] = answers-are w n d c.requires.base.here c.requires.base.within ∙ ap (λ o. map f (unwrap_or o [])) none in
    record { list = none; found = subst (AreFound p2 _) (sym empty) (subst (λ l. AreFound p2 l []) (sym c.new.ensures) tt) }
