use Rattle.std.proofs.Common.{◌&&◌, false, ap, ◌∙◌, sym}
use Rattle.std.specs.List.{list_any}
use Rattle.std.specs.Option.{option_map_or}
use Rattle.method_slots.specs.Chains.{longest_chain}
use Rattle.interface_maps.specs.Choices as spec
use Rattle.interface_maps.proofs.FoundLemmas.{found-lacks}
use Rattle.interface_maps.proofs.answers.lacks_answer.Goals as goal

pub returns-then-is_concrete : goal.returns-then-is_concrete
returns-then-is_concrete c =
    let w = c.args.world.now in
    let all = spec.answers longest_chain w c.args.id.0 in
    let some = ap (λ o. option_map_or spec.is_concrete o false) c.def.ensures.value ∙ sym c.is_concrete.ensures ∙ c.if-is_concrete.true in
    c.any_lacks.ensures ∙ found-lacks c.args.pool.now c.args.found.now all c.requires.found ∙ ap (λ b. b && list_any spec.lacks all) (sym some)
