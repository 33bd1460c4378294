use Rattle.node_set.proofs.Probes.{one_cell}
use Rattle.node_set.proofs.laws.one_cell.Goals as goal

pub returns : goal.returns
returns g c = λ page all lawful. one_cell (g.P.Meaning.may page) (g.P.Page.cell_count page) (λ l m may low. (g.met.P.Nodes.node_rule page l m may low).1) all lawful
