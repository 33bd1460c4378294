use Rattle.std.proofs.Common.{◌≡◌, ℕ}
use Rattle.closed_walks.specs.declared.search.State.TheVariants.{Unseen}
use Rattle.closed_walks.specs.Search as spec
use Rattle.closed_walks.specs.Invariant.{IsSearch, work}
use Rattle.closed_walks.proofs.steps.explore.Given as goal

abbrev pub invariant-loop-start : goal.invariant-loop-start
invariant-loop-start l = record {
  known : IsSearch l.graph l.search;
  stays : (n : ℕ) → spec.state_at l.search.states n ≡ Unseen → spec.state_at l.initial.search.states n ≡ Unseen;
}

abbrev pub decreases-loop-start : goal.decreases-loop-start
decreases-loop-start l = work l.graph l.search
