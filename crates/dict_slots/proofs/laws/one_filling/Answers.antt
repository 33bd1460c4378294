use Rattle.node_set.proofs.Probes.{one_cell}
use Rattle.dict_slots.proofs.Signatures.{one_handle, filled_inside}
use Rattle.dict_slots.proofs.laws.one_filling.Goals as goal

pub returns : goal.returns
returns g c = λ page all lawful exact slot a b s t. let cells = g.P.Page.cell_count page in (
  one_handle cells all lawful.1 (one_cell (g.P.Meaning.may page) cells (λ l m may low. (g.met.P.Nodes.node_rule page l m may low).1) all lawful) exact slot a b s t,
  filled_inside cells all lawful.1 (λ m has inside. g.met.P.Slots.slot_rule page all m (lawful.0 m has) inside) exact slot a s,
)
