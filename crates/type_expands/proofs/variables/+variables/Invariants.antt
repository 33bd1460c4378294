use Rattle.std.proofs.Common.{◌≡◌, ◌++◌, map, flat_map, take}
use Rattle.type_expands.specs.Links as spec
use Rattle.type_expands.proofs.variables.+variables.Given as goal

abbrev pub invariant-push_all_variables-loop-t : goal.invariant-push_all_variables-loop-t
invariant-push_all_variables-loop-t l = l.links ≡ l.fn.links ++ flat_map (λ t. map (spec.expanding_to l.to l.place) (spec.found t).variables) (take l.t-index l.all)
