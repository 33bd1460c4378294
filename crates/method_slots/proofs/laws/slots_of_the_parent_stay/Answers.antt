use Rattle.method_slots.proofs.SlotLemmas.{keeps_slots}
use Rattle.method_slots.proofs.laws.slots_of_the_parent_stay.Goals as goal

pub returns : goal.returns
returns c = keeps_slots c.args.world.now c.args.parents c.args.def.0
