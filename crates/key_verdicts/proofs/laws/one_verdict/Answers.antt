use Rattle.key_verdicts.proofs.Verdicts.{one}
use Rattle.key_verdicts.proofs.laws.one_verdict.Goals as goal

pub returns : goal.returns
returns c = one c.closure_once.ensures c.closure_or_too_large.ensures
