use Rattle.std.proofs.Common.{sym, subst}
use Rattle.method_slots.specs.OpenSets.{OpensOnce}
use Rattle.method_slots.proofs.OpenPuts.{empty_once}
use Rattle.method_slots.proofs.open_set.OpenSet.new.Goals as goal

pub invariant_of-result : goal.invariant_of-result
invariant_of-result c = subst OpensOnce (sym c.new.ensures.empty) empty_once
