use Rattle.std.proofs.Common.{◌≡◌, ◌∙◌, [], List, Some, None, ap, map, length, unwrap_or, sym, subst, arith}
use Rattle.std.proofs.lemmas.Option.{slice_get_within}
use Rattle.type_tree.specs.declared.definition.Def.{Def}
use Rattle.type_tree.specs.declared.tree.Ty.{Ty}
use Rattle.type_pool.specs.Trees.{at_all, ids_below}
use Rattle.method_slots.specs.Chains.{longest_chain}
use Rattle.interface_lists.specs.Lists.{from_parent, interfaces, with_own}
use Rattle.interface_lists.specs.Walks.{IdsAre}
use Rattle.interface_maps.specs.declared.answers.Interface.{Interface}
use Rattle.interface_maps.specs.declared.maps.MapLevel.{MapLevel}
use Rattle.interface_maps.specs.Choices.{Answered, answered, answers}
use Rattle.interface_maps.specs.Found.{AreFound}
use Rattle.interface_maps.specs.Maps.{above_of, interfaces_of, own_of, IsMap}
use Rattle.interface_maps.proofs.ChainLemmas.{above-child, answers-are, list-child}
use Rattle.interface_maps.proofs.MapLemmas.{found-choices, map-read}
use Rattle.interface_maps.proofs.walk.from_parent.Goals as goal

pub bounds-as_slice-place : goal.bounds-as_slice-place
bounds-as_slice-place c =
    let inside = slice_get_within c.args.maps.now.levels c.args.place c.requires.place.level c.requires.place.here in
    let same = ap length c.as_slice.ensures in
    omega (arith, inside, same)

pub with_above-requires-clause-above : goal.with_above-requires-clause-above
with_above-requires-clause-above c =
    let w = c.args.world.now in
    let n = c.args.id.0 in
    let p = c.args.parent.0 in
    let d : Def = c.args.def.now in
    let ts = c.args.pool.now in
    let level : MapLevel = c.index-as_slice-place.result in
    let is : IsMap w ts p level = map-read w ts c.args.maps.now.levels p c.args.place c.requires.place c.as_slice.result.now c.as_slice.ensures level c.index-as_slice-place.is in
    let listed = subst (λ o. IdsAre ts o (interfaces longest_chain w p)) c.in-Some.is is.list in
    let us : List Ty = listed.0 in
    let same : at_all ts c.as_slice-in-Some.result.now ≡ us = ap (at_all ts) c.as_slice-in-Some.ensures ∙ listed.2.are in
    let whole : interfaces_of w p ≡ us = ap (λ o. unwrap_or o []) listed.1 in
    let given = above-child w d p c.requires.parent in
    record {
      below = ap (ids_below (length ts)) c.as_slice-in-Some.ensures ∙ listed.2.within;
      list = list-child w n d c.requires.base.here c.requires.base.within p (Some us) c.requires.parent listed.1 ∙ ap (λ us. with_own w d (from_parent d.parent us)) (sym same);
      trees = given.0 ∙ ap (from_parent d.parent) (whole ∙ sym same);
      choices = ap (map (λ (f : Interface). f.choices)) c.as_slice-in-Some-2.ensures ∙ found-choices ts level.found (answers longest_chain w p) is.found ∙ sym given.1;
    }

pub returns-in-None-clause-level : goal.returns-in-None-clause-level
returns-in-None-clause-level c =
    let w = c.args.world.now in
    let n = c.args.id.0 in
    let p = c.args.parent.0 in
    let d : Def = c.args.def.now in
    let ts = c.args.pool.now in
    let level : MapLevel = c.index-as_slice-place.result in
    let is : IsMap w ts p level = map-read w ts c.args.maps.now.levels p c.args.place c.requires.place c.as_slice.result.now c.as_slice.ensures level c.index-as_slice-place.is in
    let above = subst (λ o. IdsAre ts o (interfaces longest_chain w p)) c.in-None.is is.list in
    let none : interfaces longest_chain w n ≡ None = list-child w n d c.requires.base.here c.requires.base.within p None c.requires.parent above in
    let f : Ty → Answered = answered w n d (own_of w d) (above_of w d) in
    let empty : answers longest_chain w n ≡ [] = answers-are w n d c.requires.base.here c.requires.base.within ∙ ap (λ o. map f (unwrap_or o [])) none in
    record { list = none; found = subst (AreFound ts _) (sym empty) (subst (λ l. AreFound ts l []) (sym c.new.ensures) tt) }
