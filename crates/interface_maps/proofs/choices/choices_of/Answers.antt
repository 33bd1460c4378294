use Rattle.std.proofs.Common.{◌≡◌, [], List, ℕ, Option, Some, None, filter, ap, ◌∙◌, sym, subst}
use Rattle.std.specs.List.{range_with_len}
use Rattle.std.specs.Option.{option_and_then, option_map_or}
use Rattle.std.specs.Prelude.{slice_get}
use Rattle.type_tree.specs.declared.definition.Def.{Def}
use Rattle.type_tree.specs.declared.tree.Ty.{Ty}
use Rattle.type_pool.specs.Trees.{at}
use Rattle.slot_chains.proofs.DefLemmas.{methods_within}
use Rattle.interface_lists.specs.Lists.{def_of}
use Rattle.interface_lists.specs.Walks.{IsHead}
use Rattle.interface_maps.specs.Choices.{choices, each, is_method, methods_of}
use Rattle.interface_maps.specs.Maps.{above_of, each_of, own_of}
use Rattle.interface_maps.proofs.MapLemmas.{ok-same}
use Rattle.interface_maps.proofs.choices.choices_of.Goals as goal

pub choices_in-requires-clause-within : goal.choices_in-requires-clause-within
choices_in-requires-clause-within c = methods_within c.args.world.now c.def-face.result.now c.def-face.ensures.fits

pub returns-in-Some-clause-choices : goal.returns-in-Some-clause-choices
returns-in-Some-clause-choices c =
    let w = c.args.world.now in
    let ts = c.args.pool.now in
    let t : Ty = at ts c.args.tree in
    let face : Def = c.def-face.result.now in
    let f = each_of w c.args.id.0 c.args.def.now t in
    let given = subst (λ o. IsHead w ts t o) c.in-Some.is c.in_ok-at.ensures in
    let here : def_of w t ≡ Some face = ap (λ o. option_and_then (λ p. slice_get w.defs p) o) given.0 ∙ c.def-face.ensures.value in
    let is : methods_of w t ≡ filter (is_method w) (range_with_len face.first_method face.methods) = ap (λ o. option_map_or (λ (d : Def). filter (is_method w) (range_with_len d.first_method d.methods)) o []) here in
    let all : List (Option ℕ) = each f 0 (filter (is_method w) (range_with_len face.first_method face.methods)) in
    let d : Def = c.args.def.now in
    let wanted : List (Option ℕ) = choices w c.args.id.0 d (own_of w d) (above_of w d) t in
    let same : all ≡ wanted = ap (each f 0) (sym is) in
    ok-same c.choices_in.result all wanted same c.choices_in.ensures.choices

pub returns-in-None-clause-choices : goal.returns-in-None-clause-choices
returns-in-None-clause-choices c =
    let w = c.args.world.now in
    let ts = c.args.pool.now in
    let t : Ty = at ts c.args.tree in
    let f = each_of w c.args.id.0 c.args.def.now t in
    let none : def_of w t ≡ None = subst (λ o. IsHead w ts t o) c.in-None.is c.in_ok-at.ensures in
    c.new.ensures ∙ sym (ap (λ o. each f 0 (option_map_or (λ (d : Def). filter (is_method w) (range_with_len d.first_method d.methods)) o [])) none)
