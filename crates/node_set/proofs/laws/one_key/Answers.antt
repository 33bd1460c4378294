use Rattle.node_set.proofs.Spelling.{one_key}
use Rattle.node_set.proofs.laws.one_key.Goals as goal

pub returns : goal.returns
returns g c = λ page all lawful h k l s t. one_key (g.P.Page.cell_count page) all lawful.1 h k l s t
