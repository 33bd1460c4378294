use Rattle.load_legal.proofs.WiderNames.{legal_event}
use Rattle.load_legal.proofs.laws.last_event.Goals as goal

pub returns : goal.returns
returns g c = λ v names es e later l. legal_event (g.V.Verdicts.sigs v) (g.V.Verdicts.good v) (g.V.Verdicts.refused v) (g.N.Names.names names) es e later l
