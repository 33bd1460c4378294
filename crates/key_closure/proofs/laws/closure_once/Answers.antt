use Rattle.key_closure.proofs.Turns.{whole_one}
use Rattle.key_closure.proofs.laws.closure_once.Goals as goal

pub returns : goal.returns
returns c = λ needs key members others h k. whole_one needs key members others h.whole k.whole
