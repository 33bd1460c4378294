use Rattle.good_types.proofs.GoodTypes.{list_some, list_in}
use Rattle.good_types.proofs.laws.interfaces_in_closure.Goals as goal

pub returns-clause-some : goal.returns-clause-some
returns-clause-some c = λ w root members n args judged at. list_some w root members judged n args at

pub returns-clause-members : goal.returns-clause-members
returns-clause-members c = λ w root members n args list judged at is u there. (list_in c.closure_least.ensures w root members judged n args list at is u there).0

pub returns-clause-interfaces : goal.returns-clause-interfaces
returns-clause-interfaces c = λ w root members n args list judged at is u there. (list_in c.closure_least.ensures w root members judged n args list at is u there).1
