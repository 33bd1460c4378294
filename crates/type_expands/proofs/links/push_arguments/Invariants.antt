use Rattle.std.proofs.Common.{◌≡◌, ◌++◌, map, drop}
use Rattle.type_expands.specs.Links as spec
use Rattle.type_expands.proofs.links.push_arguments.Given as goal

abbrev pub invariant-loop-place : goal.invariant-loop-place
invariant-loop-place l = l.links ++ spec.argument_links l.to l.place (map spec.found (drop l.place l.arguments)) ≡ l.fn.links ++ spec.argument_links l.to 0 (map spec.found l.arguments)
