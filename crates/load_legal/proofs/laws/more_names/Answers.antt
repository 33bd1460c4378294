use Rattle.load_legal.proofs.WiderNames.{legal_more}
use Rattle.load_legal.proofs.laws.more_names.Goals as goal

pub returns : goal.returns
returns g c = λ v names more es l one within. legal_more (g.V.Verdicts.sigs v) (g.V.Verdicts.good v) (g.V.Verdicts.refused v) (g.N.Names.names names) (g.M.Names.names more) within one es l
