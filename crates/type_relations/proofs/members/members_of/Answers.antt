use Rattle.std.proofs.Common.{◌≡◌, List, map, length, ap, ◌∙◌}
use Rattle.type_tree.specs.declared.tree.Ty.{Ty}
use Rattle.type_tree.specs.declared.tree.Key.{Key}
use Rattle.type_tree.specs.declared.tree.Key.TheVariants.{Tree}
use Rattle.type_tree.specs.Canon.{canon_ty}
use Rattle.type_pool.specs.declared.nodes.Id.{Id}
use Rattle.type_pool.specs.Trees.{at_all}
use Rattle.type_pool.specs.Keys.{key_at, keys_below}
use Rattle.type_pool.proofs.JobLemmas.{noted-grown}
use Rattle.key_closure.specs.Bounds.{keys_at}
use Rattle.key_closure.proofs.NodeTurns.{key-grown, key_below-grown}
use Rattle.type_relations.specs.Relations.{stands_on}
use Rattle.type_relations.proofs.ListLemmas.{keys_with}
use Rattle.type_relations.proofs.members.members_of.Goals as goal

pub stands_on-requires : goal.stands_on-requires
stands_on-requires c = key_below-grown c.args.pool.now c.canon_key.new.pool c.canon_key.ensures.grows c.args.key.now c.requires.within

pub returns-clause-noted : goal.returns-clause-noted
returns-clause-noted c = noted-grown c.canon_key.new.pool c.stands_on.new.pool c.stands_on.ensures.grows (canon_ty c.args.world.now) c.canon_key.new.memo c.in_ok-canonical.ensures.noted

pub returns-clause-within : goal.returns-clause-within
returns-clause-within c =
    let mid = c.canon_key.new.pool in let us = c.stands_on.new.pool in
    let all = keys_with mid us c.in_ok-keys.keys c.in_ok-canonical.canonical _ _ c.stands_on.ensures.grows c.in_ok-keys.ensures.within c.in_ok-keys.ensures.are c.in_ok-canonical.ensures.spells in
    ap (keys_below (length us)) c.in_ok-push.ensures.ok ∙ all.0

pub returns-clause-spells : goal.returns-clause-spells
returns-clause-spells c =
    let w = c.args.world.now in let ts = c.args.pool.now in let mid = c.canon_key.new.pool in let us = c.stands_on.new.pool in
    let same : key_at mid c.args.key.now ≡ key_at ts c.args.key.now = key-grown ts mid c.canon_key.ensures.grows c.args.key.now c.requires.within in
    let are : keys_at us c.in_ok-keys.keys ≡ map Tree (stands_on w (key_at ts c.args.key.now)) =
    c.in_ok-keys.ensures.are ∙ (ap (λ (l : List Id). map Tree (at_all us l)) c.as_slice.ensures ∙ (ap (λ (l : List Ty). map Tree l) c.in_ok-ids.ensures.spells.are ∙ ap (λ (k : Key). map Tree (stands_on w k)) same)) in
    let all = keys_with mid us c.in_ok-keys.keys c.in_ok-canonical.canonical _ _ c.stands_on.ensures.grows c.in_ok-keys.ensures.within are c.in_ok-canonical.ensures.spells in
    ap (keys_at us) c.in_ok-push.ensures.ok ∙ all.1
