use Rattle.std.proofs.Common.{◌↔◌, IsTrue, Bool, ◌∙◌, ap, sym, subst}
use Rattle.type_expands.specs.Expands as spec
use Rattle.type_expands.proofs.Deciding.{answer_is}
use Rattle.type_expands.proofs.answers.expands.Goals as goal

pub returns : goal.returns
returns c =
    let w = c.args.world.now in
    let d = c.args.def.0 in
    let e = c.found_at.ensures ∙ ap (λ l. spec.found_at l d) c.as_slice.ensures in
    subst (λ (b : Bool). IsTrue b ↔ spec.Expands w d) (sym e) (answer_is w c.in_ok-found.found d c.in_ok-found.ensures)
