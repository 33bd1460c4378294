use Rattle.std.proofs.Common.{◌≡◌, ◌≤◌, length, take, drop}
use Rattle.closed_walks.specs.Search as spec
use Rattle.closed_walks.proofs.settling.settle.Given as goal

abbrev pub invariant-loop-path : goal.invariant-loop-path
invariant-loop-path l = record {
  within : l.place ≤ length l.path;
  path : take l.place l.path ≡ take l.place l.fn.path;
  states : spec.all_done l.found (drop l.place l.path) l.states ≡ spec.all_done l.found (drop l.place l.fn.path) l.fn.states;
}

abbrev pub decreases-loop-path : goal.decreases-loop-path
decreases-loop-path l = length l.path
