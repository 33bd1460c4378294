use Rattle.std.proofs.Common.{◌≡◌, take, false}
use Rattle.std.specs.List.{list_any}
use Rattle.closed_walks.specs.Search as spec
use Rattle.closed_walks.specs.Walks.{edges_from}
use Rattle.closed_walks.proofs.settling.any_leads.Given as goal

abbrev pub invariant-loop-node : goal.invariant-loop-node
invariant-loop-node l = list_any (λ n. list_any (spec.edge_leads l.states) (edges_from l.graph n)) (take l.node-index l.nodes) ≡ false
