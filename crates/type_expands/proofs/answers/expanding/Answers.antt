use Rattle.std.proofs.Common.{◌≡◌, ◌∙◌, ap, ap₂, sym, subst, map, flat_map, List}
use Rattle.std.proofs.lemmas.Result.{IfOk-weaker}
use Rattle.closed_walks.specs.Walks.{AreFound}
use Rattle.closed_walks.specs.declared.graph.Edge.{Edge}
use Rattle.type_expands.specs.Formals as formals
use Rattle.type_expands.specs.Expands as spec
use Rattle.type_expands.proofs.Deciding.{are_expanding}
use Rattle.type_expands.proofs.answers.expanding.Goals as goal

pub returns : goal.returns
returns c =
    let w = c.args.world.now in
    let graph : c.as_slice-2.result.now ≡ formals.formal_graph w = c.as_slice-2.ensures.value ∙ c.in_ok-graph.ensures ∙ ap (λ ss. flat_map (formals.rows ss) w.defs) (c.as_slice.ensures ∙ c.in_ok-spans.ensures) in
    let are = subst (λ (g : List (List Edge)). AreFound g c.in_ok-found.found) graph c.in_ok-found.ensures in
    IfOk-weaker c.all_found.result _ _ (λ a e. subst (spec.AreExpanding w) (sym (e ∙ ap₂ (λ f ss. map (spec.any_found f) ss) c.as_slice-3.ensures (c.as_slice-4.ensures ∙ c.in_ok-spans.ensures))) (are_expanding w c.in_ok-found.found are)) c.all_found.ensures
