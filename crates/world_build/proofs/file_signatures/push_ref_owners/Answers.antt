use Rattle.std.proofs.Common.{ap}
use Rattle.type_tree.specs.declared.tree.Key.TheVariants as key
use Rattle.world_build.specs.References.{ref_owner}
use Rattle.world_build.proofs.Pushed.{pushed}
use Rattle.world_build.proofs.file_signatures.push_ref_owners.Goals as goal

pub loop-row-preserved : goal.loop-row-preserved
loop-row-preserved c =
    pushed (λ row. key.Tree (ref_owner c.args.reader.now row)) c.loop-row.row _ _ _ _ c.loop-row.invariant c.in_ok-push.ensures.ok
    (ap key.Tree c.in_ok-ref_owner.ensures)
