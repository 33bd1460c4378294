use Rattle.std.proofs.Common.{length}
use Rattle.clr_base.specs.declared.ids.DefId.{DefId}
use Rattle.def_faults.specs.Marks.{IsMarked, Climbed}
use Rattle.def_faults.proofs.chains.settle.Given as goal

abbrev pub invariant-loop-id : goal.invariant-loop-id
invariant-loop-id l = record {
  marked : IsMarked l.world l.marks l.path;
  climbed : (from : DefId) → Climbed l.world l.fn.path from l.fn.above → Climbed l.world l.path from l.note;
}

abbrev pub decreases-loop-id : goal.decreases-loop-id
decreases-loop-id l = length l.path
