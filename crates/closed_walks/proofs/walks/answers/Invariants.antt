use Rattle.std.proofs.Common.{◌≡◌, map, take}
use Rattle.closed_walks.specs.Search as spec
use Rattle.closed_walks.proofs.walks.answers.Given as goal

abbrev pub invariant-loop-state : goal.invariant-loop-state
invariant-loop-state l = l.found ≡ map spec.answer (take l.state-index l.states)
