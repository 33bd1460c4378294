use Rattle.std.proofs.Common.{◌≡◌, map, take}
use Rattle.type_members.specs.MemberTable.{core_run}
use Rattle.type_members.proofs.member_tables.core_members.Given as goal

abbrev pub invariant-loop-def : goal.invariant-loop-def
invariant-loop-def l = l.runs ≡ map core_run (take l.def-index l.defs)
