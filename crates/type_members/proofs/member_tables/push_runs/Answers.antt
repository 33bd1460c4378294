use Rattle.type_members.specs.MemberTable.{run_at}
use Rattle.type_members.proofs.MemberParts.{push_more}
use Rattle.type_members.proofs.member_tables.push_runs.Goals as goal

pub loop-row-preserved : goal.loop-row-preserved
loop-row-preserved c =
    push_more (run_at c.args.fields_before c.args.methods_before c.args.tables.now) c.loop-row.row c.args.runs.now c.loop-row.runs _ _ c.loop-row.invariant
    c.in_ok-push.ensures.ok c.run_of.ensures
