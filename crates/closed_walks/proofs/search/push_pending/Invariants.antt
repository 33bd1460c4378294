use Rattle.std.proofs.Common.{◌≡◌, ◌++◌, map, take}
use Rattle.closed_walks.specs.Search as spec
use Rattle.closed_walks.proofs.search.push_pending.Given as goal

abbrev pub invariant-loop-edge : goal.invariant-loop-edge
invariant-loop-edge l = l.list ≡ l.fn.list ++ map (spec.pending_at l.at) (take l.edge-index l.edges)
