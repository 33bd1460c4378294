use Rattle.world_build.specs.References.{spec_key}
use Rattle.world_build.proofs.Pushed.{pushed}
use Rattle.world_build.proofs.file_signatures.push_spec_keys.Goals as goal

pub loop-row-preserved : goal.loop-row-preserved
loop-row-preserved c =
    pushed (spec_key c.args.reader.now) c.loop-row.row _ _ _ _ c.loop-row.invariant c.in_ok-push.ensures.ok c.in_ok-spec_key.ensures
