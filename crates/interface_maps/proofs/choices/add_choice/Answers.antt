use Rattle.std.proofs.Common.{◌≡◌, false, true, length, ap, ◌∙◌, sym}
use Rattle.std.specs.Option.{option_map_or}
use Rattle.type_pool.specs.Trees.{at}
use Rattle.method_slots.specs.Slots.{takes_slot}
use Rattle.interface_maps.specs.Choices.{is_method}
use Rattle.interface_maps.specs.Maps.{each_of}
use Rattle.interface_maps.proofs.MapLemmas.{add-none, add-one}
use Rattle.interface_maps.proofs.choices.add_choice.Goals as goal

pub returns-then-not-takes_slot-clause-added : goal.returns-then-not-takes_slot-clause-added
returns-then-not-takes_slot-clause-added c =
    let w = c.args.world.now in
    let m = c.args.method.0 in
    let none : is_method w m ≡ false = ap (λ o. option_map_or takes_slot o false) c.method.ensures.value ∙ sym c.takes_slot.ensures ∙ c.if-not-takes_slot.true in
    add-none (each_of w c.args.id.0 c.args.def.now (at c.args.pool.now c.args.tree)) (is_method w) m c.args.done.now none

pub returns-clause-added : goal.returns-clause-added
returns-clause-added c =
    let w = c.args.world.now in
    let m = c.args.method.0 in
    let done = c.args.done.now in
    let f = each_of w c.args.id.0 c.args.def.now (at c.args.pool.now c.args.tree) in
    let some : is_method w m ≡ true = ap (λ o. option_map_or takes_slot o false) c.method.ensures.value ∙ sym c.takes_slot.ensures ∙ c.if-not-takes_slot.false in
    let one : c.in_ok-choice.choice ≡ f (length done) m = c.in_ok-choice.ensures.choice ∙ ap (λ j. f j m) c.len-j.ensures in
    add-one f (is_method w) m done c.in_ok-choice.choice c.push.new.self some one c.in_ok-push.ensures.ok
