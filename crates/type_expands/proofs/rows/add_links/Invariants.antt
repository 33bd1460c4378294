use Rattle.std.proofs.Common.{take}
use Rattle.type_expands.specs.Formals as spec
use Rattle.type_expands.proofs.rows.add_links.Given as goal

abbrev pub invariant-loop-link : goal.invariant-loop-link
invariant-loop-link l = spec.IsAdded l.spans l.fn.rows.items (take l.link-index l.links) l.rows.items
