use Rattle.std.proofs.Common.{◌≡◌, ◌++◌, List, length, ap, ap₂, ◌∙◌, append_assoc}
use Rattle.type_tree.specs.Context.{arguments}
use Rattle.type_pool.specs.declared.nodes.Id.{Id}
use Rattle.type_pool.specs.Trees.{at, at_all, ids_below}
use Rattle.type_pool.proofs.JobLemmas.{at-grown}
use Rattle.type_relations.specs.Relations.{bases, contents}
use Rattle.type_relations.proofs.ListLemmas.{join_spells}
use Rattle.type_relations.proofs.members.of_type.Goals as goal

pub push_contents-requires-clause-ids : goal.push_contents-requires-clause-ids
push_contents-requires-clause-ids c =
    let ts = c.args.pool.now in let mid = c.bases.new.pool in let t = at ts c.args.id in
    let list : c.push_ids.new.ids ≡ c.in_ok-ids.ids ++ c.in_ok-more.more = c.in_ok-push_ids.ensures ∙ ap (λ (l : List Id). c.in_ok-ids.ids ++ l) c.as_slice.ensures in
    ap (ids_below (length mid)) list ∙ (join_spells ts mid c.in_ok-ids.ids c.in_ok-more.more (arguments t) (bases c.args.world.now t) c.bases.ensures.grows c.in_ok-ids.ensures c.in_ok-more.ensures.spells).within

pub returns-clause-spells : goal.returns-clause-spells
returns-clause-spells c =
    let ts = c.args.pool.now in let mid = c.bases.new.pool in let t = at ts c.args.id in let w = c.args.world.now in
    let both = join_spells ts mid c.in_ok-ids.ids c.in_ok-more.more (arguments t) (bases w t) c.bases.ensures.grows c.in_ok-ids.ensures c.in_ok-more.ensures.spells in
    let last = c.in_ok-push_contents.ensures.adds in
    let list : c.push_ids.new.ids ≡ c.in_ok-ids.ids ++ c.in_ok-more.more = c.in_ok-push_ids.ensures ∙ ap (λ (l : List Id). c.in_ok-ids.ids ++ l) c.as_slice.ensures in
    let front : at_all mid c.push_ids.new.ids ≡ arguments t ++ bases w t = ap (at_all mid) list ∙ both.are in
    let same : at mid c.args.id ≡ t = at-grown ts mid c.bases.ensures.grows c.args.id c.requires in
    record { within = last.within; are = last.are ∙ (ap₂ (λ a u. a ++ contents w u) front same ∙ append_assoc (arguments t) (bases w t) (contents w t)) }
