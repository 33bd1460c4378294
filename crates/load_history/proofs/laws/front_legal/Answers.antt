use Rattle.load_history.proofs.Fronts.{legal}
use Rattle.load_history.proofs.laws.front_legal.Goals as goal

pub returns : goal.returns
returns g c = λ page all lawful es front.
    legal (g.P.Page.cell_count page) all lawful.1 (g.P.Journal.may_follow page all) (λ m has high. g.met.P.Journal.journal_rule page all m (lawful.0 m has) high) es front
