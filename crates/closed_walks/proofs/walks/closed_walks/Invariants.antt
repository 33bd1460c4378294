use Rattle.std.proofs.Common.{◌≡◌, ◌<◌, ℕ, []}
use Rattle.closed_walks.specs.declared.search.State.TheVariants.{Unseen}
use Rattle.closed_walks.specs.Search as spec
use Rattle.closed_walks.specs.Invariant.{IsSearch}
use Rattle.closed_walks.proofs.walks.closed_walks.Given as goal

abbrev pub invariant-loop-node : goal.invariant-loop-node
invariant-loop-node l = record {
  known : IsSearch l.graph l.search;
  idle : l.search.starts ≡ [];
  seen : (n : ℕ) → n < l.node → spec.state_at l.search.states n ≡ Unseen → ⊥;
}
