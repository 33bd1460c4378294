use Rattle.std.proofs.Common.{◌++◌, List, ap, ◌∙◌}
use Rattle.std.specs.Option.{option_to_list}
use Rattle.type_pool.specs.declared.nodes.Id.{Id}
use Rattle.type_pool.specs.Trees.{at_all}
use Rattle.type_relations.specs.Relations.{put_in}
use Rattle.type_pool.proofs.JobLemmas.{below-grown, at_all-grown}
use Rattle.type_relations.proofs.exact.of_def.Goals as goal

pub push_all_put_in-requires-clause-args : goal.push_all_put_in-requires-clause-args
push_all_put_in-requires-clause-args c = below-grown c.args.pool.now c.push_parent.new.pool c.push_parent.ensures.grows c.args.args.now c.requires

pub returns-clause-spells : goal.returns-clause-spells
returns-clause-spells c =
    let ts = c.args.pool.now in let mid = c.push_parent.new.pool in let last = c.in_ok-push_all_put_in.ensures.adds in
    let parents = c.in_ok-push_parent.ensures.adds.are ∙ ap (λ (l : List Id). at_all ts l ++ put_in (at_all ts c.args.args.now) (option_to_list c.args.def.now.parent)) c.new-ids.ensures in
    let same = at_all-grown ts mid c.push_parent.ensures.grows c.args.args.now c.requires in
    record { within = last.within; are = last.are ∙ (λ i. parents i ++ put_in (same i) (c.as_slice.ensures i)) }
