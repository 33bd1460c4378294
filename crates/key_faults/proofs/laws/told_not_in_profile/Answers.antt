use Rattle.key_faults.proofs.Telling.{not_in_profile_is}
use Rattle.key_faults.proofs.laws.told_not_in_profile.Goals as goal

pub returns : goal.returns
returns c = not_in_profile_is
