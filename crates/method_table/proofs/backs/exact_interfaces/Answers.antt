use Rattle.std.proofs.Common.{◌∙◌, List, [], map, unwrap_or, Option, None, Some, ap, sym, subst}
use Rattle.std.proofs.lemmas.Simd.{map-map}
use Rattle.std.proofs.lemmas.Result.{IfOk-weaker}
use Rattle.type_tree.specs.declared.tree.Key.TheVariants as made
use Rattle.type_tree.specs.declared.tree.Ty.{Ty}
use Rattle.type_tree.specs.Subst.{subst_ty, subst_all}
use Rattle.type_pool.specs.declared.nodes.Id.{Id}
use Rattle.type_pool.specs.Trees.{at_all}
use Rattle.method_slots.specs.Chains.{longest_chain}
use Rattle.interface_lists.specs.Lists.{interfaces}
use Rattle.interface_lists.specs.Walks.{IdsAre}
use Rattle.interface_maps.specs.Choices.{Answered, answers}
use Rattle.interface_maps.proofs.ChainLemmas.{answers-trees}
use Rattle.method_table.specs.Named.{key_named}
use Rattle.method_table.proofs.backs.exact_interfaces.Goals as goal

pub returns-in-Some-clause-named : goal.returns-in-Some-clause-named
returns-in-Some-clause-named c =
    let w = c.args.world.now in let n = c.args.def.0 in let ts = c.args.pool.now in
    let types : List Ty = at_all ts c.args.args.now in
    let list = interfaces longest_chain w n in
    let given : IdsAre ts (Some c.in-Some.ids) list = subst (λ o. IdsAre ts o list) c.in-Some.is c.requires.level.list in
    let trees = answers-trees w n ∙ ap (λ (o : Option (List Ty)). unwrap_or o []) given.1 in
    let whole = ap (λ (l : List Id). subst_all types [] (at_all ts l)) c.as_slice.ensures ∙ ap (subst_all types []) (given.2.are ∙ sym trees)
    ∙ map-map (subst_ty types []) (λ (a : Answered). a.interface) (answers longest_chain w n) in
    IfOk-weaker c.exact_numbers.result _ _ (λ ns e. e ∙ ap (λ (l : List Ty). map Some (map made.Tree l)) whole) c.exact_numbers.ensures.named

pub returns-in-None-clause-named : goal.returns-in-None-clause-named
returns-in-None-clause-named c =
    let w = c.args.world.now in let n = c.args.def.0 in let ts = c.args.pool.now in
    let types : List Ty = at_all ts c.args.args.now in
    let list = interfaces longest_chain w n in
    let given : IdsAre ts None list = subst (λ o. IdsAre ts o list) c.in-None.is c.requires.level.list in
    let trees = answers-trees w n ∙ ap (λ (o : Option (List Ty)). unwrap_or o []) given in
    let nothing = sym (map-map (subst_ty types []) (λ (a : Answered). a.interface) (answers longest_chain w n)) ∙ ap (subst_all types []) trees in
    ap (map (key_named ts c.args.keys.now)) c.new.ensures ∙ sym (ap (λ (l : List Ty). map Some (map made.Tree l)) nothing)
