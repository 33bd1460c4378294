use Rattle.good_types.proofs.GoodTypes.{chain_in}
use Rattle.good_types.proofs.laws.chain_in_closure.Goals as goal

pub returns : goal.returns
returns g = λ w root members n args judged at c there. chain_in g.closure_least.ensures w root members judged n args at c there
