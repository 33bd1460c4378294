use Rattle.std.proofs.Common.{◌≡◌, None, take}
use Rattle.std.specs.List.{find, range_with_len}
use Rattle.type_members.specs.MemberTable.{is_field}
use Rattle.type_members.proofs.member_index.field_in_run.Given as goal

abbrev pub invariant-loop-k : goal.invariant-loop-k
invariant-loop-k l = find (is_field l.members l.name l.ty) (take l.k (range_with_len l.first l.count)) ≡ None
