use Rattle.std.proofs.lemmas.Result.{IfOk-weaker}
use Rattle.type_pool.proofs.JobLemmas.{below-grown}
use Rattle.type_relations.proofs.ListLemmas.{put_spells}
use Rattle.type_relations.proofs.lists.with_args.Goals as goal

pub subst-requires-clause-types_in : goal.subst-requires-clause-types_in
subst-requires-clause-types_in c = below-grown c.args.pool.now c.from_tree.new.pool c.from_tree.ensures.grows c.args.args.now c.requires

pub returns-clause-spells : goal.returns-clause-spells
returns-clause-spells c =
    IfOk-weaker c.subst.result _ _
    (λ put spells. put_spells c.args.pool.now c.from_tree.new.pool c.subst.new.pool c.args.args.now c.in_ok-whole.whole put c.args.tree.now c.from_tree.ensures.grows c.requires c.in_ok-whole.ensures.spells spells)
    c.subst.ensures.spells
