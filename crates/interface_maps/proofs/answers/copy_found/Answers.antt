use Rattle.std.proofs.Common.{◌≡◌, ◌<◌, ◌+◌, ◌++◌, ◌∷◌, [], List, ℕ, Option, length, take, ap, ap₂, ◌∙◌, sym, arith}
use Rattle.std.proofs.lemmas.List.{take_more}
use Rattle.interface_maps.specs.declared.answers.Interface.{Interface}
use Rattle.interface_maps.proofs.answers.copy_found.Goals as goal

pub loop-one-preserved : goal.loop-one-preserved
loop-one-preserved c =
    let k = c.loop-one in
    let i = k.one-index in
    let found : List Interface = c.args.found.now in
    let one : Interface = c.one-item.result in
    let inside : i < length found = omega arith in
    let all : take (i + 1) found ≡ take i found ++ one ∷ [] = take_more found i one inside ∙ ap (λ r. take i found ++ r ∷ []) (sym c.one-item.is) in
    let copy : List (Option ℕ) → Interface = λ cs. record { tree = one.tree; choices = cs } in
    c.in_ok-push.ensures.ok ∙ ap₂ (λ l cs. l ++ copy cs ∷ []) k.invariant (c.in_ok-choices.ensures ∙ c.as_slice.ensures) ∙ sym all
