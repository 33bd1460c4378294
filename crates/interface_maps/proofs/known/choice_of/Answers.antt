use Rattle.std.proofs.Common.{◌≡◌, ap, ap₂, cond, None, List, ◌∙◌, sym}
use Rattle.std.specs.List.{list_any}
use Rattle.std.specs.Option.{option_or, option_map, option_and_then}
use Rattle.type_tree.specs.declared.definition.Method.{Method}
use Rattle.type_tree.specs.declared.tree.Ty.{Ty}
use Rattle.type_tree.specs.Context.{arguments}
use Rattle.type_pool.specs.Trees.{at}
use Rattle.method_slots.specs.Opens.{open_of, put_open}
use Rattle.method_slots.specs.Slots.{matches, same_tree}
use Rattle.interface_maps.specs.Choices.{Public, by_name, by_row, first_of, inherited_choice, publics}
use Rattle.interface_maps.proofs.known.choice_of.Goals as goal

pub returns-clause-choice : goal.returns-clause-choice
returns-clause-choice c = λ n d own above known.
    let w = c.args.world.now in
    let t : Ty = at c.args.pool.now c.args.tree in
    let m = c.args.id.0 in
    let r : Method = c.method-method.result.now in
    let row : c.find_row-row.result ≡ by_row w n d t m = c.find_row-row.ensures w n d.impls known.rows in
    let above_is : c.inherited_choice-inherited.result ≡ inherited_choice above t c.args.j = c.inherited_choice-inherited.ensures known.trees above known.places known.parents in
    let answer = λ (types : List Ty) (r : Method). option_map (λ (p : Public). p.number) (first_of (λ (p : Public). matches p.signature (put_open types (open_of r))) (publics w n)) in
    let by : by_name w n t m ≡ answer (arguments t) r = ap (λ o. option_and_then (answer (arguments t)) o) c.method-method.ensures.value in
    let name : c.in_ok-named.named ≡ cond (list_any (same_tree t) own) (by_name w n t m) None =
    c.in_ok-named.ensures.named w n d own above known ∙ ap (λ types. cond (list_any (same_tree t) own) (answer types r) None) (sym c.requires.arguments) ∙ sym (ap (λ o. cond (list_any (same_tree t) own) o None) by) in
    c.choose.ensures ∙ ap₂ option_or row (ap₂ option_or name above_is)
