use Rattle.dict_slots.proofs.Signatures.{others_before}
use Rattle.dict_slots.proofs.laws.slots_before.Goals as goal

pub returns : goal.returns
returns g c = λ page all lawful. others_before (g.P.Page.cell_count page) all lawful.1 (λ m has inside. g.met.P.Slots.slot_rule page all m (lawful.0 m has) inside)
