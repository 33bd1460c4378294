use Rattle.std.proofs.Common.{◌<◌, arith}
use Rattle.std.proofs.lemmas.List.FromFn.{fill_by_all}
use Rattle.image_write.specs.Drafts.{rows, counts}
use Rattle.image_write.proofs.layout.counts_of.Goals as goal

pub returns-clause-counts : goal.returns-clause-counts
unfolding counts
returns-clause-counts c =
    fill_by_all (rows c.args.draft.now) c.loop-t.counts 45 0 c.loop-t.invariant.room
    (λ k less. let below : k < c.loop-t.t = omega arith in c.loop-t.invariant.counted k below)
