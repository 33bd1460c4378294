use Rattle.std.proofs.Common.{Some}
use Rattle.type_record.specs.Naming.{field_in}
use Rattle.type_record.proofs.NamingLemmas.{none_in}
use Rattle.type_record.proofs.naming.fields_in.Goals as goal

pub returns-in_default : goal.returns-in_default
returns-in_default g c =
    none_in (field_in (g.H.Handles.handle_of c.args.names.now)) (field_in Some) c.args.fields.now c.loop-field.field-index c.field-item.result c.loop-field-test.true c.field-item.is c.in_default.ensures
