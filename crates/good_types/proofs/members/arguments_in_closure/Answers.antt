use Rattle.good_types.proofs.Faultless.{type_arity, method_arity}
use Rattle.good_types.proofs.members.arguments_in_closure.Goals as goal

pub returns-clause-types : goal.returns-clause-types
returns-clause-types c = λ w root members n d args judged at here. type_arity w root members judged n d args at here

pub returns-clause-methods : goal.returns-clause-methods
returns-clause-methods c = λ w root members k m judged at here. method_arity w root members judged k m at here
