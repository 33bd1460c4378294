use Rattle.std.proofs.Common.{◌≡◌, ◌≤◌}
use Rattle.cli_tables.specs.Layout.{present_in}
use Rattle.cli_tables.proofs.layout.present_count.Given as goal

abbrev pub invariant-loop-t : goal.invariant-loop-t
invariant-loop-t l = record { so_far : l.count ≡ present_in l.valid l.t; small : l.count ≤ l.t }
