use Rattle.std.proofs.Common.{◌≡◌, map, None, Some, subst, ap, ◌∙◌}
use Rattle.type_record.specs.TheOne.{IsSuch}
use Rattle.type_record.specs.Naming.{choice_in}
use Rattle.type_record.proofs.NamingLemmas.{none_in}
use Rattle.type_record.proofs.naming.lists_in.Goals as goal

pub returns-in_default : goal.returns-in_default
returns-in_default g c =
    let one = map (choice_in (g.H.Handles.handle_of c.args.names.now)) in
    let none : IsSuch (λ cs. one c.as_slice.result.now ≡ map (choice_in Some) cs) None =
    subst (IsSuch (λ cs. one c.as_slice.result.now ≡ map (choice_in Some) cs)) c.in_default.is c.in_ok-named.ensures in
    none_in one (map (choice_in Some)) c.args.lists.now c.loop-choices.choices-index c.choices-item.result c.loop-choices-test.true c.choices-item.is
    (λ cs e. none cs (ap one c.as_slice.ensures ∙ e))
