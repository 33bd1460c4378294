use Rattle.std.proofs.Common.{◌++◌, [], ◌∙◌, ap, ap₂, sym}
use Rattle.std.proofs.lemmas.Option.{slice_get_within, get_or_from_slice_get}
use Rattle.type_expands.specs.Formals as spec
use Rattle.type_expands.proofs.Walking.{flat_step}
use Rattle.type_expands.proofs.graph.graph_of.Goals as goal

pub loop-n-preserved : goal.loop-n-preserved
loop-n-preserved c =
    let k = c.loop-n in
    let ds = c.args.world.now.defs in
    let d = c.def.result.now in
    let f = spec.rows c.args.spans.now in
    let lt = slice_get_within ds k.n d c.def.ensures.value in
    c.in_ok-append.ensures.items ∙ ap₂ (λ a b. a ++ b) k.invariant (c.in_ok-rows.ensures ∙ ap f (sym (get_or_from_slice_get ds k.n d d c.def.ensures.value)))
    ∙ flat_step f [] ds k.n d lt
