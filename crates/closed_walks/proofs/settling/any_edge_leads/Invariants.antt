use Rattle.std.proofs.Common.{◌≡◌, take, false}
use Rattle.std.specs.List.{list_any}
use Rattle.closed_walks.specs.Search as spec
use Rattle.closed_walks.proofs.settling.any_edge_leads.Given as goal

abbrev pub invariant-loop-edge : goal.invariant-loop-edge
invariant-loop-edge l = list_any (spec.edge_leads l.states) (take l.edge-index l.edges) ≡ false
