use Rattle.std.proofs.Common.{Some}
use Rattle.type_record.specs.Naming.{slot_in}
use Rattle.type_record.proofs.NamingLemmas.{none_in}
use Rattle.type_record.proofs.naming.slots_in.Goals as goal

pub returns-in_default : goal.returns-in_default
returns-in_default g c =
    none_in (slot_in (g.H.Handles.handle_of c.args.names.now)) (slot_in Some) c.args.slots.now c.loop-slot.slot-index c.slot-item.result c.loop-slot-test.true c.slot-item.is c.in_default.ensures
