use Rattle.std.proofs.Common.{◌≡◌, None, take}
use Rattle.std.specs.List.{find}
use Rattle.type_members.specs.MemberIndexes.{has_type}
use Rattle.type_members.proofs.member_index.first_field.Given as goal

abbrev pub invariant-loop-field : goal.invariant-loop-field
invariant-loop-field l = find (has_type l.members l.ty) (take l.field-index l.fields) ≡ None
