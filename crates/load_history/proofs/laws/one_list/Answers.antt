use Rattle.load_history.proofs.Fronts.{reads_on_more}
use Rattle.load_history.proofs.laws.one_list.Goals as goal

pub returns : goal.returns
returns g c = λ page all lawful xs ys short r s. reads_on_more (g.P.Page.cell_count page) all lawful.1 0 xs ys short r s
