use Rattle.node_set.proofs.Probes.{one_cell}
use Rattle.dict_slots.proofs.Signatures.{one_slot}
use Rattle.dict_slots.proofs.laws.one_slot.Goals as goal

pub returns : goal.returns
returns g c = λ page all lawful. one_slot (g.P.Page.cell_count page) all lawful.1 (λ m has inside. g.met.P.Slots.slot_rule page all m (lawful.0 m has) inside)
    (one_cell (g.P.Meaning.may page) (g.P.Page.cell_count page) (λ l m may low. (g.met.P.Nodes.node_rule page l m may low).1) all lawful)
