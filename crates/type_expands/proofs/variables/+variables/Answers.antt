use Rattle.std.proofs.Common.{◌++◌, ◌∙◌, map, flat_map, ap, sym}
use Rattle.std.proofs.lemmas.Result.{on_ok_weaker}
use Rattle.type_expands.specs.Links as spec
use Rattle.type_expands.proofs.Walking.{inst_variables}
use Rattle.type_expands.proofs.variables.+variables.Goals as goal

pub push_variables-returns-in-Inst : goal.push_variables-returns-in-Inst
push_variables-returns-in-Inst t c =
    let old = c.args.links.now in
    let all = spec.expanding_to c.args.to c.args.place in
    on_ok_weaker c.push_all_variables.result (λ e.
    e ∙ ap (λ ts. old ++ flat_map (λ t. map all (spec.found t).variables) ts) c.as_slice.ensures
    ∙ ap (λ l. old ++ l) (sym (inst_variables c.args.to c.args.place c.in-Inst.field-0 c.in-Inst.arguments))
    ∙ ap (λ t. old ++ map all (spec.found t).variables) (sym c.in-Inst.is)) c.push_all_variables.ensures
