use Rattle.std.proofs.Common.{◌++◌, ◌∙◌, map, ap, ap₂, sym, append_assoc}
use Rattle.std.proofs.lemmas.Result.{on_ok_weaker}
use Rattle.type_expands.specs.Links as spec
use Rattle.type_expands.proofs.Walking.{inst_links}
use Rattle.type_expands.proofs.links.+links.Goals as goal

pub push_links-returns-in_ok-push_arguments-in-Inst :
    goal.push_links-returns-in_ok-push_arguments-in-Inst
push_links-returns-in_ok-push_arguments-in-Inst t c =
    let old = c.args.links.now in
    let d = c.in-Inst.def in
    let ts = c.in-Inst.arguments in
    let first = c.in_ok-push_arguments-in-Inst.ensures ∙ ap (λ us. old ++ spec.argument_links d 0 (map spec.found us)) c.as_slice.ensures in
    on_ok_weaker c.push_all_links.result (λ e.
    e ∙ ap₂ (λ a b. a ++ b) first (ap spec.all_links c.as_slice-in-Inst.ensures)
    ∙ append_assoc old (spec.argument_links d 0 (map spec.found ts)) (spec.all_links ts)
    ∙ ap (λ l. old ++ l) (sym (inst_links d ts))
    ∙ ap (λ t. old ++ (spec.found t).links) (sym c.in-Inst.is)) c.push_all_links.ensures
