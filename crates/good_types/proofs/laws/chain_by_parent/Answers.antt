use Rattle.good_types.proofs.GoodTypes.{chain_last, chain_alone, chain_behind}
use Rattle.good_types.proofs.laws.chain_by_parent.Goals as goal

pub returns-clause-last : goal.returns-clause-last
returns-clause-last c = λ w root members n d args judged at here. chain_last c.closure_least.ensures w root members judged n d args at here

pub returns-clause-alone : goal.returns-clause-alone
returns-clause-alone c = λ w root members n d args judged at here none. chain_alone c.closure_least.ensures w root members judged n d args at here none

pub returns-clause-behind : goal.returns-clause-behind
returns-clause-behind c = λ w root members n d args p whole judged at here extends. chain_behind c.closure_least.ensures w root members judged n d args at here whole p extends
