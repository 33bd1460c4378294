use Rattle.std.proofs.Common.{ap₂, ◌∙◌}
use Rattle.std.proofs.lemmas.Result.{IfOk-weaker}
use Rattle.type_tree.specs.Subst.{subst_ty}
use Rattle.std.proofs.Common.{[]}
use Rattle.type_pool.proofs.JobLemmas.{at_all-grown, below-grown}
use Rattle.interface_lists.proofs.declared.put_one.Goals as goal

pub subst-requires-clause-types_in : goal.subst-requires-clause-types_in
subst-requires-clause-types_in c = below-grown c.args.pool.now c.from_tree.new.pool c.in_ok-open.ensures.grows c.args.args.now c.requires

pub returns-clause-spells : goal.returns-clause-spells
returns-clause-spells c =
    let types = at_all-grown c.args.pool.now c.from_tree.new.pool c.in_ok-open.ensures.grows c.args.args.now c.requires in
    let is = ap₂ (λ us t. subst_ty us [] t) types c.in_ok-open.ensures.spells.is in
    IfOk-weaker c.subst.result _ _ (λ r s. record { within = s.within; is = s.is ∙ is }) c.subst.ensures.spells
