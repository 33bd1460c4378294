use Rattle.world_build.specs.References.{method_spec}
use Rattle.type_members.proofs.MemberLists.{row_more}
use Rattle.world_build.proofs.file_tokens.method_specs.Goals as goal

pub loop-row-preserved : goal.loop-row-preserved
loop-row-preserved c =
    row_more (method_spec c.args.reader.now) c.loop-row.row _ _ _ c.loop-row.invariant c.in_ok-push.ensures.ok c.method_spec.ensures
