use Rattle.std.proofs.Common.{ap₂, ◌∙◌, []}
use Rattle.std.proofs.lemmas.Result.{IfOk-weaker}
use Rattle.type_tree.specs.Subst.{subst_ty}
use Rattle.type_pool.proofs.JobLemmas.{at_all-grown, below-grown}
use Rattle.field_layout.proofs.own_fields.type_in.Goals as goal

pub subst-requires-clause-types_in : goal.subst-requires-clause-types_in
subst-requires-clause-types_in c = below-grown c.args.pool.now c.from_tree.new.pool c.from_tree.ensures.grows c.args.args.now c.requires

pub returns-clause-spells : goal.returns-clause-spells
returns-clause-spells c =
    let args = at_all-grown c.args.pool.now c.from_tree.new.pool c.from_tree.ensures.grows c.args.args.now c.requires in
    let is = ap₂ (λ a t. subst_ty a [] t) args c.in_ok-open.ensures.spells.is in
    IfOk-weaker c.subst.result _ _ (λ r s. record { within = s.within; is = s.is ∙ is }) c.subst.ensures.spells
