use Rattle.std.proofs.Common.{◌≡◌, ◌-◌, length}
use Rattle.cli_tables.specs.TextFaults.{end_at, AreFaultsFrom}
use Rattle.cli_tables.proofs.text_faults.fault_at_each.Given as goal

abbrev pub invariant-loop-behind : goal.invariant-loop-behind
invariant-loop-behind l = (l.zero ≡ end_at l.heap (length l.heap - l.behind)) × (length l.faults.items ≡ length l.heap) × AreFaultsFrom l.heap (length l.heap - l.behind) l.faults.items
