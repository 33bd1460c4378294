use Rattle.std.proofs.Common.{◌≡◌, [], List, ap, ap₂, ◌∙◌, sym, subst, length}
use Rattle.std.proofs.lemmas.Result.{IfOk-weaker}
use Rattle.std.specs.Option.{option_and_then}
use Rattle.type_tree.specs.declared.tree.Ty.{Ty}
use Rattle.type_pool.specs.declared.nodes.Id.{Id}
use Rattle.type_pool.specs.Trees.{at_all, ids_below}
use Rattle.type_pool.proofs.JobLemmas.{at_all-grown, below-grown}
use Rattle.interface_lists.specs.Lists as spec
use Rattle.interface_lists.specs.Walks.{IdsAre}
use Rattle.interface_lists.proofs.lists.with_own.Goals as goal

pub join-requires-clause-inherited : goal.join-requires-clause-inherited
join-requires-clause-inherited c =
    let p1 = c.own_list.new.pool in
    ap (ids_below (length p1)) c.as_slice.ensures ∙ below-grown c.args.pool.now p1 c.in_ok-own.ensures.grows c.args.inherited c.requires

pub returns-in-Some-clause-list : goal.returns-in-Some-clause-list
returns-in-Some-clause-list c =
    let p0 = c.args.pool.now in
    let p1 = c.own_list.new.pool in
    let w = c.args.world.now in
    let d = c.args.def.now in
    let inherited : List Id = c.args.inherited in
    let own = subst (λ o. IdsAre p1 o (spec.own_list w d)) c.in-Some.is c.in_ok-own.ensures.list in
    let first : at_all p1 c.as_slice.result.now ≡ at_all p0 inherited = ap (at_all p1) c.as_slice.ensures ∙ at_all-grown p0 p1 c.in_ok-own.ensures.grows inherited c.requires in
    let second : at_all p1 c.as_slice-in-Some.result.now ≡ own.0 = ap (at_all p1) c.as_slice-in-Some.ensures ∙ own.2.are in
    let f : List Ty → List Ty → List Ty = λ a b. spec.joined (spec.joined [] a) b in
    let is = ap spec.bounded (ap₂ f first second) ∙ sym (ap (option_and_then (λ us. spec.bounded (f (at_all p0 inherited) us))) own.1) in
    IfOk-weaker c.join.result _ _ (λ ids s. subst (IdsAre p1 ids) is s) c.join.ensures
