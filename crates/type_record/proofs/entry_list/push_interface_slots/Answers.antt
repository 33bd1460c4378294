use Rattle.std.proofs.Common.{arith, subst}
use Rattle.std.specs.List.{All}
use Rattle.std.proofs.lemmas.Grind.{common_steps}
use Rattle.std.proofs.lemmas.List.Elements.{All-more}
use Rattle.type_record.specs.Records.{ChoiceHasNumber}
use Rattle.type_record.proofs.entry_list.push_interface_slots.Goals as goal

pub loop-choices-preserved : goal.loop-choices-preserved
loop-choices-preserved g c =
    let small : All ChoiceHasNumber c.choices-item.result = subst (All ChoiceHasNumber) c.as_slice.ensures c.in_ok-push_choices.ensures.numbers in
    record {
      pushed = grind (arith, common_steps);
      numbers = All-more (All ChoiceHasNumber) c.args.lists.now c.loop-choices.choices-index c.choices-item.result (omega arith) c.loop-choices.invariant.numbers (subst (All ChoiceHasNumber) c.choices-item.is small);
    }
