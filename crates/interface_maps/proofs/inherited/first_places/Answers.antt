use Rattle.std.proofs.Common.{◌≡◌, ◌<◌, ◌+◌, ◌++◌, ◌∷◌, [], List, nat_eq, cond, None, Some, length, take, get_or, ap, ◌∙◌, sym, arith}
use Rattle.std.proofs.lemmas.List.{length-take-le, take_more}
use Rattle.std.specs.Option.{option_or}
use Rattle.type_pool.specs.declared.nodes.Id.{Id}
use Rattle.interface_maps.specs.Inherited.{first_place}
use Rattle.interface_maps.proofs.InheritedLemmas.{place-append}
use Rattle.interface_maps.proofs.inherited.first_places.Goals as goal

pub loop-i-preserved : goal.loop-i-preserved
loop-i-preserved c = λ q.
    let k = c.loop-i in
    let trees : List Id = c.args.trees.now in
    let inside : k.i < length trees = omega arith in
    let t : Id = get_or trees k.i (record { 0 = 0 }) in
    let done = take k.i trees in
    let more : take (k.i + 1) trees ≡ done ++ t ∷ [] = take_more trees k.i (record { 0 = 0 }) inside in
    let long : length done ≡ k.i = length-take-le k.i trees (omega (arith, inside)) in
    c.in_ok-note_first.ensures q ∙ ap (λ o. option_or o (cond (nat_eq t.0 q) (Some k.i) None)) (k.invariant q)
    ∙ sym (ap (first_place q) more ∙ place-append q done t ∙ ap (λ n. option_or (first_place q done) (cond (nat_eq t.0 q) (Some n) None)) long)
