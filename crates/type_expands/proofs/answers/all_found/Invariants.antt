use Rattle.std.proofs.Common.{◌≡◌, map, take}
use Rattle.type_expands.specs.Expands as spec
use Rattle.type_expands.proofs.answers.all_found.Given as goal

abbrev pub invariant-loop-span : goal.invariant-loop-span
invariant-loop-span l = l.answers ≡ map (spec.any_found l.found) (take l.span-index l.spans)
