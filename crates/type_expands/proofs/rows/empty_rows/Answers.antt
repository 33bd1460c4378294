use Rattle.std.proofs.Common.{◌∙◌, [], ◌∷◌, ◌++◌, ap₂, List}
use Rattle.std.proofs.lemmas.List.{replicate-append-replicate}
use Rattle.closed_walks.specs.declared.graph.Edge.{Edge}
use Rattle.type_expands.proofs.rows.empty_rows.Goals as goal

pub loop-i-preserved : goal.loop-i-preserved
loop-i-preserved c =
    c.in_ok-push.ensures.items ∙ ap₂ (λ (a : List (List Edge)) (b : List Edge). a ++ b ∷ []) c.loop-i.invariant c.new.ensures
    ∙ replicate-append-replicate {A = List Edge} c.loop-i.i 1 []
