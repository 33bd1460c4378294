use Rattle.key_closure.proofs.Turns.{whole_least}
use Rattle.key_closure.proofs.laws.closure_least.Goals as goal

pub returns : goal.returns
returns c = λ needs key members h. whole_least needs key members h.whole
