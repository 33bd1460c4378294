use Rattle.world_build.specs.References.{member_ref}
use Rattle.type_members.proofs.MemberLists.{row_more}
use Rattle.world_build.proofs.member_refs.members_of_refs.Goals as goal

pub loop-row-preserved : goal.loop-row-preserved
loop-row-preserved c = record {
  members =
      row_more (member_ref c.args.reader.now) c.loop-row.row c.loop-row.members _ _ c.loop-row.invariant.members c.in_ok-push.ensures.ok
      c.in_ok-noted_member.ensures.member;
  noted = c.in_ok-noted_member.ensures.noted;
}
