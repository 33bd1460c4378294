use Rattle.std.proofs.Common.{Some}
use Rattle.type_record.specs.Naming.{choice_in}
use Rattle.type_record.proofs.NamingLemmas.{none_in}
use Rattle.type_record.proofs.naming.choices_in.Goals as goal

pub returns-in_default : goal.returns-in_default
returns-in_default g c =
    none_in (choice_in (g.H.Handles.handle_of c.args.names.now)) (choice_in Some) c.args.choices.now c.loop-choice.choice-index c.choice-item.result c.loop-choice-test.true c.choice-item.is c.in_default.ensures
