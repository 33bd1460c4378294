use Rattle.std.proofs.Common.{◌≡◌, ◌+◌, ◌++◌, [], ◌∷◌, ◌∙◌, ap, ap₂, drop, length}
use Rattle.type_expands.specs.Formals as spec
use Rattle.type_expands.proofs.Walking.{spans_step}
use Rattle.type_expands.proofs.formals.spans_of.Goals as goal

pub loop-n-preserved : goal.loop-n-preserved
loop-n-preserved c =
    let k = c.loop-n in
    let ds = c.args.world.now.defs in
    let d = c.def.result.now in
    let total : c.in_ok-total.total ≡ k.total + length d.formals = c.in_ok-total.ensures ∙ ap (λ n. k.total + n) c.len-count.ensures in
    let made : c.push.new.self ≡ k.spans ++ record { first = k.total; count = length d.formals } ∷ [] = c.in_ok-push.ensures.ok ∙ ap (λ n. k.spans ++ record { first = k.total; count = n } ∷ []) c.len-count.ensures in
    ap₂ (λ s t. s ++ spec.spans_from t (drop (k.n + 1) ds)) made total ∙ spans_step k.spans k.total ds k.n d c.def.ensures.value ∙ k.invariant
