use Rattle.node_set.proofs.Probes.{one_cell}
use Rattle.dict_slots.proofs.Signatures.{one_signature}
use Rattle.dict_slots.proofs.laws.one_signature.Goals as goal

pub returns : goal.returns
returns g c = λ page all lawful. one_signature (g.P.Page.cell_count page) all lawful.1 (one_cell (g.P.Meaning.may page) (g.P.Page.cell_count page) (λ l m may low. (g.met.P.Nodes.node_rule page l m may low).1) all lawful)
