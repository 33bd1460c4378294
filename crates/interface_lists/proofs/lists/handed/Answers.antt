use Rattle.std.proofs.Common.{◌≡◌, [], ap, ap₂, ◌∙◌}
use Rattle.std.proofs.lemmas.Result.{IfOk-weaker}
use Rattle.type_tree.specs.Context.{arguments}
use Rattle.type_tree.specs.Subst.{subst_all}
use Rattle.type_pool.specs.Trees.{at_all}
use Rattle.type_pool.proofs.JobLemmas.{at_all-grown, below-grown}
use Rattle.interface_lists.proofs.lists.handed.Goals as goal

pub put_in_all-requires-clause-within : goal.put_in_all-requires-clause-within
put_in_all-requires-clause-within c = below-grown c.args.pool.now c.arguments_of.new.pool c.in_ok-types.ensures.grows c.args.above.now c.requires

pub returns-clause-spells : goal.returns-clause-spells
returns-clause-spells c =
    let p1 = c.arguments_of.new.pool in
    let all = at_all-grown c.args.pool.now p1 c.in_ok-types.ensures.grows c.args.above.now c.requires in
    let types : at_all p1 c.as_slice.result.now ≡ arguments c.args.parent.now = ap (at_all p1) c.as_slice.ensures ∙ c.in_ok-types.ensures.spells.are in
    let is = ap₂ (λ us vs. subst_all us [] vs) types all in
    IfOk-weaker c.put_in_all.result _ _ (λ ids s. record { within = s.within; are = s.are ∙ is }) c.put_in_all.ensures.spells
