use Rattle.std.proofs.Common.{◌≡◌, None, take}
use Rattle.std.specs.List.{find}
use Rattle.type_members.specs.MemberIndexes.{is_wanted}
use Rattle.type_members.proofs.member_index.first_method.Given as goal

abbrev pub invariant-loop-method : goal.invariant-loop-method
invariant-loop-method l = find (is_wanted l.members l.wanted) (take l.method-index l.methods) ≡ None
