use Rattle.std.proofs.Common.{◌≡◌, map, ap, ap₂, ◌∙◌, sym}
use Rattle.type_tree.specs.Subst.{subst}
use Rattle.type_pool.specs.Keys.{key_at}
use Rattle.type_pool.specs.Trees.{at_all, ids_below}
use Rattle.type_pool.proofs.JobLemmas.{at_all-grown, below-grown, putting_here}
use Rattle.type_pool.proofs.KeyLemmas.{meth_spells, args_below}
use Rattle.type_pool.proofs.key_walks.put_in_key.Goals as goal

pub put_in_all-requires-clause-below : goal.put_in_all-requires-clause-below
put_in_all-requires-clause-below c =
    let ts = c.args.pool.now in
    let mid = c.put_in-in-Meth.new.pool in
    let args = c.in-Meth.args in
    let within = args_below ts c.args.key.now c.in-Meth.owner c.in-Meth.method args c.requires.within c.in-Meth.is in
    ap₂ ids_below c.len-above.ensures c.as_slice.ensures ∙ below-grown ts mid c.in_ok-owner-in-Meth.ensures.grows args within

pub put_in_all-requires-clause-job : goal.put_in_all-requires-clause-job
put_in_all-requires-clause-job c = putting_here _ _ _ _ _ c.in_ok-owner-in-Meth.ensures.job

pub returns-in_ok-args-in-Meth-clause-spells : goal.returns-in_ok-args-in-Meth-clause-spells
returns-in_ok-args-in-Meth-clause-spells c =
    let ts = c.args.pool.now in
    let mid = c.put_in-in-Meth.new.pool in
    let args = c.in-Meth.args in
    let within = args_below ts c.args.key.now c.in-Meth.owner c.in-Meth.method args c.requires.within c.in-Meth.is in
    let same = ap (at_all mid) c.as_slice.ensures ∙ at_all-grown ts mid c.in_ok-owner-in-Meth.ensures.grows args within in
    meth_spells mid c.put_in_all.new.pool c.in_ok-owner-in-Meth.owner c.in-Meth.method c.in_ok-args-in-Meth.args _ _ _ _
    c.in_ok-owner-in-Meth.ensures.spells c.in_ok-args-in-Meth.ensures.grows c.in_ok-args-in-Meth.ensures.spells
    (ap₂ (λ f l. map f l) (sym c.in_ok-owner-in-Meth.ensures.job.puts) same)
    (ap (λ k. subst (key_at ts k) (at_all ts c.args.types.now) (at_all ts c.args.methods.now)) (sym c.in-Meth.is))
