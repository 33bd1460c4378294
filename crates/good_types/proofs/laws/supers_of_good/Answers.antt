use Rattle.good_types.proofs.GoodTypes.{supers_of_inst, supers_of_array}
use Rattle.good_types.proofs.laws.supers_of_good.Goals as goal

pub returns-clause-instantiation : goal.returns-clause-instantiation
returns-clause-instantiation c = λ w root members n d args list whole judged at here is g.
    supers_of_inst c.closure_least.ensures c.supers_by_closure.ensures.closed w root members judged whole n d args list at here is g

pub returns-clause-array : goal.returns-clause-array
returns-clause-array c = λ w root members t d list whole judged at here is g.
    supers_of_array c.closure_least.ensures c.supers_by_closure.ensures.closed w root members judged whole t d list at here is g
