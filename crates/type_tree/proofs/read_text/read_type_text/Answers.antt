use Rattle.std.proofs.Common.{◌∙◌, ap, subst}
use Rattle.std.specs.Bool.{then_some}
use Rattle.type_tree.specs.Reading.{Begins}
use Rattle.type_tree.proofs.GrammarLemmas.{answered, nothing_read}
use Rattle.type_tree.proofs.read_text.read_type_text.Goals as goal

pub returns-in-Ok-clause-named : goal.returns-in-Ok-clause-named
returns-in-Ok-clause-named c =
    let bytes = subst (λ s. Begins c.args.world.now 64 s c.in-Ok.tree c.in-Ok.rest.now) c.as_bytes.ensures.value c.in-Ok.ensures in
    (answered c.args.world.now c.args.text.now c.in-Ok.tree c.in-Ok.rest.now bytes c.then_some.result (c.then_some.ensures ∙ ap (λ b. then_some b c.in-Ok.tree) c.is_empty.ensures)).0

pub returns-in-Ok-clause-refused : goal.returns-in-Ok-clause-refused
returns-in-Ok-clause-refused c =
    let bytes = subst (λ s. Begins c.args.world.now 64 s c.in-Ok.tree c.in-Ok.rest.now) c.as_bytes.ensures.value c.in-Ok.ensures in
    (answered c.args.world.now c.args.text.now c.in-Ok.tree c.in-Ok.rest.now bytes c.then_some.result (c.then_some.ensures ∙ ap (λ b. then_some b c.in-Ok.tree) c.is_empty.ensures)).1

pub returns-in-Err-Refused-clause-refused : goal.returns-in-Err-Refused-clause-refused
returns-in-Err-Refused-clause-refused c = nothing_read c.args.world.now c.args.text.now (rw (c.as_bytes.ensures.value, c.in-Err-Refused.field-0-is) at c.in-Err-Refused.ensures)
