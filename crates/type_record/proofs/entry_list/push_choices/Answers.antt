use Rattle.std.proofs.Common.{arith, subst}
use Rattle.std.proofs.lemmas.Grind.{common_steps}
use Rattle.std.proofs.lemmas.List.Elements.{All-more}
use Rattle.type_record.specs.Records.{ChoiceHasNumber}
use Rattle.type_record.proofs.entry_list.push_choices.Goals as goal

pub loop-choice-preserved : goal.loop-choice-preserved
loop-choice-preserved g c =
    let small : ChoiceHasNumber c.choice-item.result = c.choice_entry.ensures.number in
    record {
      pushed = grind (arith, common_steps);
      numbers = All-more ChoiceHasNumber c.args.choices.now c.loop-choice.choice-index c.choice-item.result (omega arith) c.loop-choice.invariant.numbers (subst ChoiceHasNumber c.choice-item.is small);
    }
