use Rattle.type_record.proofs.PlaceLemmas.{interface_slot_place}
use Rattle.type_record.proofs.laws.place_of_interface_slot.Goals as goal

pub returns : goal.returns
returns g c = interface_slot_place
