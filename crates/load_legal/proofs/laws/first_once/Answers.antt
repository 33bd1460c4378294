use Rattle.load_legal.proofs.WiderNames.{first_stands, first_once}
use Rattle.load_legal.proofs.laws.first_once.Goals as goal

pub returns : goal.returns
returns g c = record {
  one = λ v names es h l has. first_stands (g.V.Verdicts.sigs v) (g.V.Verdicts.good v) (g.V.Verdicts.refused v) (g.N.Names.names names) es h l has;
  once = λ v names h n m es fs gs l. first_once (g.V.Verdicts.sigs v) (g.V.Verdicts.good v) (g.V.Verdicts.refused v) (g.N.Names.names names) h n m es fs gs l;
}
