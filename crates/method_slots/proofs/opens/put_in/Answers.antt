use Rattle.std.proofs.Common.{[], refl, ap, ap₂, ◌∙◌, length}
use Rattle.type_tree.specs.Subst.{subst_all}
use Rattle.type_pool.specs.Jobs.{SpellAll}
use Rattle.type_pool.specs.Trees.{at_all, ids_below}
use Rattle.type_pool.proofs.JobLemmas.{at_all-grown, below-grown}
use Rattle.method_slots.proofs.OpenLemmas.{open_spells}
use Rattle.method_slots.proofs.opens.put_in.Goals as goal

pub put_in_all-requires-clause-within : goal.put_in_all-requires-clause-within
put_in_all-requires-clause-within c =
    let ts = c.args.pool.now in
    ap (ids_below (length c.subst.new.pool)) c.as_slice.ensures ∙ below-grown ts c.subst.new.pool c.in_ok-ret.ensures.grows c.args.open.now.params c.requires.over.params

pub put_in_all-requires-clause-types_in : goal.put_in_all-requires-clause-types_in
put_in_all-requires-clause-types_in c = below-grown c.args.pool.now c.subst.new.pool c.in_ok-ret.ensures.grows c.args.types.now c.requires.types_in

pub returns-clause-spells : goal.returns-clause-spells
returns-clause-spells c =
    let ts = c.args.pool.now in
    let mid = c.subst.new.pool in
    let new = c.put_in_all.new.pool in
    let types = c.args.types.now in
    let params = c.args.open.now.params in
    let grows = c.in_ok-ret.ensures.grows in
    let same_types = at_all-grown ts mid grows types c.requires.types_in in
    let same_params = ap (at_all mid) c.as_slice.ensures ∙ at_all-grown ts mid grows params c.requires.over.params in
    let spelt = c.in_ok-params.ensures.spells in
    let rest : SpellAll new c.in_ok-params.params (subst_all (at_all ts types) [] (at_all ts params)) =
    record { within = spelt.within; are = spelt.are ∙ ap₂ (λ us vs. subst_all us [] vs) same_types same_params } in
    open_spells mid new _ _ c.in_ok-ret.ensures.spells c.in_ok-params.ensures.grows rest refl refl refl refl
