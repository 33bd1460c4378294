use Rattle.load_legal.proofs.WiderNames.{good_of}
use Rattle.load_legal.proofs.laws.loaded_good.Goals as goal

pub returns : goal.returns
returns g c = λ v names es h l has. good_of (g.V.Verdicts.sigs v) (g.V.Verdicts.good v) (g.V.Verdicts.refused v) (g.N.Names.names names) es h l has
