use Rattle.std.proofs.Common.{arith, subst}
use Rattle.std.proofs.lemmas.Grind.{common_steps}
use Rattle.std.proofs.lemmas.List.Elements.{All-more}
use Rattle.type_record.specs.Records.{SlotHasNumber}
use Rattle.type_record.proofs.entry_list.push_slots.Goals as goal

pub loop-slot-preserved : goal.loop-slot-preserved
loop-slot-preserved g c =
    let small : SlotHasNumber c.slot-item.result = omega arith in
    record {
      pushed = grind (arith, common_steps);
      numbers = All-more SlotHasNumber c.args.slots.now c.loop-slot.slot-index c.slot-item.result (omega arith) c.loop-slot.invariant.numbers (subst SlotHasNumber c.slot-item.is small);
    }
