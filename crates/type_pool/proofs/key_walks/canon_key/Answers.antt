use Rattle.std.proofs.Common.{◌≡◌, map, ap, ap₂, ◌∙◌, sym}
use Rattle.type_tree.specs.Canon.{canon, shared_form}
use Rattle.type_pool.specs.Keys.{key_at}
use Rattle.type_pool.specs.Trees.{at_all, ids_below}
use Rattle.type_pool.proofs.JobLemmas.{at_all-grown, below-grown}
use Rattle.type_pool.proofs.KeyLemmas.{meth_spells, args_below}
use Rattle.type_pool.proofs.key_walks.canon_key.Goals as goal

pub shared_all-requires-clause-below : goal.shared_all-requires-clause-below
shared_all-requires-clause-below c =
    let ts = c.args.pool.now in
    let mid = c.canon_in-in-Meth.new.pool in
    let args = c.in-Meth.args in
    let within = args_below ts c.args.key.now c.in-Meth.owner c.in-Meth.method args c.requires.within c.in-Meth.is in
    ap₂ ids_below c.len-above.ensures c.as_slice.ensures ∙ below-grown ts mid c.in_ok-owner-in-Meth.ensures.grows args within

pub returns-in_ok-args-in-Meth-clause-spells : goal.returns-in_ok-args-in-Meth-clause-spells
returns-in_ok-args-in-Meth-clause-spells c =
    let ts = c.args.pool.now in
    let w = c.args.world.now in
    let mid = c.canon_in-in-Meth.new.pool in
    let args = c.in-Meth.args in
    let within = args_below ts c.args.key.now c.in-Meth.owner c.in-Meth.method args c.requires.within c.in-Meth.is in
    let same = ap (at_all mid) c.as_slice.ensures ∙ at_all-grown ts mid c.in_ok-owner-in-Meth.ensures.grows args within in
    meth_spells mid c.shared_all.new.pool c.in_ok-owner-in-Meth.owner c.in-Meth.method c.in_ok-args-in-Meth.args _ _ _ _
    c.in_ok-owner-in-Meth.ensures.spells c.in_ok-args-in-Meth.ensures.grows c.in_ok-args-in-Meth.ensures.spells
    (ap (map (shared_form w)) same) (ap (λ k. canon w (key_at ts k)) (sym c.in-Meth.is))
