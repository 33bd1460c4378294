use Rattle.std.proofs.Common.{◌≡◌, flat_map, take}
use Rattle.type_expands.specs.Formals as spec
use Rattle.type_expands.proofs.graph.graph_of.Given as goal

abbrev pub invariant-loop-n : goal.invariant-loop-n
invariant-loop-n l = l.graph.items ≡ flat_map (spec.rows l.spans) (take l.n l.world.defs)
