use Rattle.std.proofs.Common.{◌≡◌, map}
use Rattle.std.specs.List.{range_with_len}
use Rattle.world_build.specs.MemberRefs.{AreNoted}
use Rattle.world_build.specs.References.{member_ref}
use Rattle.world_build.proofs.member_refs.members_of_refs.Given as goal

abbrev pub invariant-loop-row : goal.invariant-loop-row
invariant-loop-row l = record { members : l.members ≡ map (member_ref l.reader) (range_with_len 1 l.row); noted : AreNoted l.reader l.noted }
