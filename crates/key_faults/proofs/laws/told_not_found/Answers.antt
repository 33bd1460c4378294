use Rattle.key_faults.proofs.Telling.{not_found_is}
use Rattle.key_faults.proofs.laws.told_not_found.Goals as goal

pub returns : goal.returns
returns c = not_found_is
