use Rattle.std.proofs.Common.{◌≡◌, List, Option, Some, ap, subst, ◌∙◌, sym}
use Rattle.type_tree.specs.declared.definition.Def.{Def}
use Rattle.method_slots.specs.declared.numbers.Virtual.{Virtual}
use Rattle.method_slots.specs.Keyed.{AreSlots}
use Rattle.method_slots.specs.Slots as slots
use Rattle.method_slots.specs.Virtuals.{numbers, opened}
use Rattle.method_slots.proofs.KeyedLemmas.{own-slots}
use Rattle.method_slots.proofs.VirtualLemmas.{all_named-grown, both_ok}
use Rattle.method_slots.proofs.virtuals.own_numbers.Goals as goal

pub returns-clause-are : goal.returns-clause-are
returns-clause-are c = both_ok c.slot_numbers.result c.slot_numbers.ensures.numbers c.slot_numbers.ensures.opened (λ given is are. λ d parent here named.
    let w = c.args.world.now in
    let pool = c.own_in.new.pool in
    let set = c.own_in.new.set in
    let keys = c.args.keys.now in
    let vs : List (Option Virtual) = c.in_ok-own.own in
    let r : Def = c.def-def.result.now in
    let some : Some r ≡ Some d = sym c.def-def.ensures.value ∙ here in
    let same : r ≡ d = cc in
    let made = c.in_ok-own.ensures in
    let new = c.slot_numbers.new.keys in
    let grown = all_named-grown c.args.pool.now pool c.args.set.now set made.grows made.set_grows keys parent named in
    let own = own-slots pool c.each_once.ensures set c.each_once-2.ensures keys parent grown vs (slots.own_methods w r) new given made.are
    (is ∙ ap (numbers keys) c.as_slice.ensures) (are ∙ ap (opened keys) c.as_slice.ensures) in
    subst (λ x. AreSlots pool set parent (slots.own_methods w x) new given) same own)
