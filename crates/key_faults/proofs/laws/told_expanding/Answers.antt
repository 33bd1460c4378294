use Rattle.key_faults.proofs.Telling.{expanding_is}
use Rattle.key_faults.proofs.laws.told_expanding.Goals as goal

pub returns : goal.returns
returns c = expanding_is
