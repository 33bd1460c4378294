use Rattle.good_types.proofs.Standing.{none_local, no_fault}
use Rattle.good_types.proofs.members.faultless_closure.Goals as goal

pub returns-clause-first : goal.returns-clause-first
returns-clause-first c = λ w root members k judged at. none_local w root members judged k at

pub returns-clause-none : goal.returns-clause-none
returns-clause-none c = λ w root members k judged at f. no_fault w root members judged k at f
