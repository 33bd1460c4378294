use Rattle.std.proofs.Common.{◌≡◌, ap, ◌∙◌, length}
use Rattle.type_pool.specs.Keys.{keys_below}
use Rattle.key_closure.specs.Bounds.{keys_at}
use Rattle.type_relations.proofs.ListLemmas.{trees, trees_within, trees_are, all_trees}
use Rattle.type_relations.proofs.supers.as_keys.Goals as goal

pub returns-clause-within : goal.returns-clause-within
returns-clause-within c =
    let all : c.loop-id.keys ≡ trees c.args.ids.now = all_trees c.loop-id.keys c.args.ids.now c.loop-id.id-index c.loop-id-test.false c.loop-id.invariant in
    ap (keys_below (length c.args.pool.now)) all ∙ trees_within (length c.args.pool.now) c.args.ids.now c.requires

pub returns-clause-are : goal.returns-clause-are
returns-clause-are c =
    let all : c.loop-id.keys ≡ trees c.args.ids.now = all_trees c.loop-id.keys c.args.ids.now c.loop-id.id-index c.loop-id-test.false c.loop-id.invariant in
    ap (keys_at c.args.pool.now) all ∙ trees_are c.args.pool.now c.args.ids.now
