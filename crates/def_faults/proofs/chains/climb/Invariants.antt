use Rattle.std.proofs.Common.{◌≡◌, Some}
use Rattle.def_faults.specs.Chains.{parent}
use Rattle.def_faults.specs.Marks.{IsMarked, Leads, first_or, unknowns}
use Rattle.def_faults.proofs.chains.climb.Given as goal

abbrev pub invariant-loop-next : goal.invariant-loop-next
invariant-loop-next l = record {
  marked : IsMarked l.world l.marks l.path;
  leads : Leads (parent l.world) l.next l.path;
  first : first_or l.path l.next ≡ Some l.fn.from;
}

abbrev pub decreases-loop-next : goal.decreases-loop-next
decreases-loop-next l = unknowns l.marks
