use Rattle.std.proofs.Common.{◌≡◌, ◌++◌, map}
use Rattle.std.specs.List.{range_with_len}
use Rattle.type_members.specs.MemberTable.{run_at}
use Rattle.type_members.proofs.member_tables.push_runs.Given as goal

abbrev pub invariant-loop-row : goal.invariant-loop-row
invariant-loop-row l = l.runs ≡ l.initial.runs ++ map (run_at l.fields_before l.methods_before l.tables) (range_with_len 1 l.row)
