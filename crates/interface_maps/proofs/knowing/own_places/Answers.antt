use Rattle.std.proofs.Common.{◌≡◌, ◌∙◌, [], List, Some, None, ap, unwrap_or, sym, subst}
use Rattle.std.proofs.lemmas.Result.{IfOk-weaker}
use Rattle.type_tree.specs.declared.definition.Def.{Def}
use Rattle.type_pool.specs.declared.nodes.Id.{Id}
use Rattle.interface_lists.specs.Lists.{own_list}
use Rattle.interface_lists.specs.Walks.{IdsAre}
use Rattle.interface_maps.specs.Inherited.{ArePlaces}
use Rattle.interface_maps.proofs.MapLemmas.{no-places}
use Rattle.interface_maps.proofs.knowing.own_places.Goals as goal

pub returns-in-Some-clause-places : goal.returns-in-Some-clause-places
returns-in-Some-clause-places c =
    let w = c.args.world.now in
    let d : Def = c.args.def.now in
    let ts = c.own_list.new.pool in
    let ids : List Id = c.in-Some.ids in
    let listed : IdsAre ts (Some ids) (own_list w d) = subst (λ o. IdsAre ts o (own_list w d)) c.in-Some.is c.in_ok-ids.ensures.list in
    IfOk-weaker c.first_places.result _ _ (λ places firsts. record {
      ids = ids;
      firsts = subst (ArePlaces places) c.as_slice.ensures firsts;
      spelled = record { within = listed.2.within; are = listed.2.are ∙ sym (ap (λ o. unwrap_or o []) listed.1) };
    }) c.first_places.ensures

pub returns-in-None-clause-places : goal.returns-in-None-clause-places
returns-in-None-clause-places c =
    let w = c.args.world.now in
    let d : Def = c.args.def.now in
    let ts = c.own_list.new.pool in
    let none : own_list w d ≡ None = subst (λ o. IdsAre ts o (own_list w d)) c.in-None.is c.in_ok-ids.ensures.list in
    no-places w ts d c.new.result c.new.ensures.empty none
