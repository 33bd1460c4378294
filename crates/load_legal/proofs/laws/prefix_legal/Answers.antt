use Rattle.load_legal.proofs.WiderNames.{legal_first}
use Rattle.load_legal.proofs.laws.prefix_legal.Goals as goal

pub returns : goal.returns
returns g c = λ v names es later l. legal_first (g.V.Verdicts.sigs v) (g.V.Verdicts.good v) (g.V.Verdicts.refused v) (g.N.Names.names names) es later l
