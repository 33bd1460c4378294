use Rattle.std.proofs.Common.{sym, subst}
use Rattle.type_pool.specs.Keys.{NodesOnce}
use Rattle.type_pool.proofs.KeySets.{empty_once}
use Rattle.type_pool.proofs.key_nodes.Keys.new.Goals as goal

pub invariant_of-result : goal.invariant_of-result
invariant_of-result c = subst NodesOnce (sym c.new.ensures.empty) empty_once
