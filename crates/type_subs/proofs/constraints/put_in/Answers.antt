use Rattle.std.proofs.lemmas.Result.{IfOk-weaker}
use Rattle.type_pool.proofs.JobLemmas.{below-grown}
use Rattle.type_subs.proofs.PutLemmas.{put_spells}
use Rattle.type_subs.proofs.constraints.put_in.Goals as goal

pub subst-requires-clause-types_in : goal.subst-requires-clause-types_in
subst-requires-clause-types_in c = below-grown c.args.pool.now c.from_tree.new.pool c.from_tree.ensures.grows c.args.types.now c.requires.types

pub subst-requires-clause-methods_in : goal.subst-requires-clause-methods_in
subst-requires-clause-methods_in c = below-grown c.args.pool.now c.from_tree.new.pool c.from_tree.ensures.grows c.args.methods.now c.requires.methods

pub returns-clause-spells : goal.returns-clause-spells
returns-clause-spells c =
    IfOk-weaker c.subst.result _ _
    (λ put spells. put_spells c.args.pool.now c.from_tree.new.pool c.from_tree.ensures.grows c.args.types.now c.args.methods.now c.requires.types c.requires.methods c.subst.new.pool
    c.in_ok-open.open put c.args.tree.now c.in_ok-open.ensures.spells spells)
    c.subst.ensures.spells
