use Rattle.std.proofs.Common.{◌≡◌, ◌++◌, take}
use Rattle.type_expands.specs.Links as spec
use Rattle.type_expands.proofs.links.+links.Given as goal

abbrev pub invariant-push_all_links-loop-t : goal.invariant-push_all_links-loop-t
invariant-push_all_links-loop-t l = l.links ≡ l.fn.links ++ spec.all_links (take l.t-index l.all)
