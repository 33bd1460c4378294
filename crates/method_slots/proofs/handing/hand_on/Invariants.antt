use Rattle.std.proofs.Common.{take}
use Rattle.type_pool.specs.Trees.{at_all, Grows}
use Rattle.method_slots.specs.Keyed.{HandOn}
use Rattle.method_slots.specs.OpenSets.{OpensGrow}
use Rattle.method_slots.proofs.handing.hand_on.Given as goal

abbrev pub invariant-loop-key : goal.invariant-loop-key
invariant-loop-key l = record {
  grows : Grows l.fn.pool l.pool;
  set_grows : OpensGrow l.fn.set l.set;
  hands_on : HandOn l.fn.pool l.fn.set l.pool l.set (at_all l.fn.pool l.types) (take l.key-index l.keys) l.done;
}
