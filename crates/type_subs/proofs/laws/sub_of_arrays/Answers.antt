use Rattle.type_subs.proofs.SubLemmas.{arrays_law}
use Rattle.type_subs.proofs.laws.sub_of_arrays.Goals as goal

pub returns : goal.returns
returns c = arrays_law
