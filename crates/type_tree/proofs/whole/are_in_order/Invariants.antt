use Rattle.std.proofs.Common.{◌≡◌, drop}
use Rattle.type_tree.specs.Whole as spec
use Rattle.type_tree.proofs.whole.are_in_order.Given as goal

abbrev pub invariant-loop-def : goal.invariant-loop-def
invariant-loop-def l = spec.are_in_order l.last (drop l.def-index l.defs) ≡ spec.are_in_order 0 l.defs
