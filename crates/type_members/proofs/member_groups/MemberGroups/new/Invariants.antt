use Rattle.std.proofs.Common.{◌≡◌}
use Rattle.clr_base.specs.declared.ids.NameId.{NameId}
use Rattle.type_members.specs.MemberIndexes.{named}
use Rattle.type_members.specs.RowIndexes.{rows_at}
use Rattle.type_members.proofs.member_groups.MemberGroups.new.Given as goal

abbrev pub invariant-loop-k : goal.invariant-loop-k
invariant-loop-k l = (name : NameId) → rows_at l.by_name name.0 ≡ named l.names l.first l.k name
