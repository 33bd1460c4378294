use Rattle.std.proofs.Common.{◌≡◌, ℕ, [], length, Some, slice_get}
use Rattle.def_faults.specs.declared.faults.DefFaults.{DefFaults}
use Rattle.def_faults.specs.Faults.{IsFaults}
use Rattle.def_faults.specs.Marks.{IsMarked}
use Rattle.def_faults.proofs.faults.def_faults.Given as goal

abbrev pub invariant-loop-number : goal.invariant-loop-number
invariant-loop-number l = record {
  marked : IsMarked l.world l.marks l.path;
  empty : l.path ≡ [];
  as_many : length l.faults ≡ l.number;
  each : (n : ℕ) (f : DefFaults) → slice_get l.faults n ≡ Some f → IsFaults l.world (record { 0 = n }) f;
}
