use Rattle.load_legal.proofs.WiderNames.{legal_next}
use Rattle.load_legal.proofs.laws.next_event.Goals as goal

pub returns : goal.returns
returns g c = λ v names es e l m. legal_next (g.V.Verdicts.sigs v) (g.V.Verdicts.good v) (g.V.Verdicts.refused v) (g.N.Names.names names) es e l m
