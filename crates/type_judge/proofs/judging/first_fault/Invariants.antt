use Rattle.std.proofs.Common.{◌≡◌, drop}
use Rattle.type_pool.specs.Trees.{Grows}
use Rattle.type_pool.specs.Keys.{key_at}
use Rattle.type_judge.specs.Notes.{AreNotes}
use Rattle.type_judge.specs.Table.{tells, first_of}
use Rattle.type_judge.proofs.judging.first_fault.Given as goal

abbrev pub invariant-loop-fault : goal.invariant-loop-fault
invariant-loop-fault l = record {
  grows : Grows l.fn.pool l.pool;
  notes : AreNotes l.world l.pool l.notes;
  left : first_of (tells l.told l.world (key_at l.fn.pool l.key)) (drop l.fault-index l.faults) ≡ first_of (tells l.told l.world (key_at l.fn.pool l.key)) l.faults;
}
