use Rattle.load_legal.proofs.WiderNames.{asked_between}
use Rattle.load_legal.proofs.laws.answered_once.Goals as goal

pub returns : goal.returns
returns g c = λ v names n a b es fs gs l. asked_between (g.V.Verdicts.sigs v) (g.V.Verdicts.good v) (g.V.Verdicts.refused v) (g.N.Names.names names) n a b es fs gs l
