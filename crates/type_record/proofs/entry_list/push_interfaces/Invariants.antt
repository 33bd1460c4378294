-- What is left stands behind what is done, and the methods before are counted.
use Rattle.std.proofs.Common.{◌≡◌, ◌+◌, ◌++◌, drop}
use Rattle.type_record.specs.Records.{interface_entries, method_count}
use Rattle.type_record.proofs.entry_list.push_interfaces.Given as goal

abbrev pub invariant-loop-i : goal.invariant-loop-i
invariant-loop-i g l = record {
  done : l.all ++ interface_entries l.before (drop l.i l.interfaces) (drop l.i l.lists) ≡ l.fn.all ++ interface_entries 0 l.interfaces l.lists;
  counted : l.before + method_count (drop l.i l.lists) ≡ method_count l.lists;
}
