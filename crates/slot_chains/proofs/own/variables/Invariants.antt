use Rattle.type_pool.specs.Jobs.{SpellAll}
use Rattle.type_pool.specs.Trees.{Grows}
use Rattle.method_slots.specs.Slots as slots
use Rattle.slot_chains.proofs.own.variables.Given as goal

abbrev pub invariant-loop-i : goal.invariant-loop-i
invariant-loop-i l = record {
  grows : Grows l.fn.pool l.pool;
  spells : SpellAll l.pool l.done (slots.variables l.i);
}
