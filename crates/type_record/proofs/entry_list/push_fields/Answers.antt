use Rattle.std.proofs.Common.{arith, subst}
use Rattle.std.proofs.lemmas.Grind.{common_steps}
use Rattle.std.proofs.lemmas.List.Elements.{All-more}
use Rattle.type_record.specs.Records.{FieldHasNumber}
use Rattle.type_record.proofs.entry_list.push_fields.Goals as goal

pub loop-field-preserved : goal.loop-field-preserved
loop-field-preserved g c =
    let small : FieldHasNumber c.field-item.result = c.field_entry.ensures.number in
    record {
      pushed = grind (arith, common_steps);
      numbers = All-more FieldHasNumber c.args.fields.now c.loop-field.field-index c.field-item.result (omega arith) c.loop-field.invariant.numbers (subst FieldHasNumber c.field-item.is small);
    }
