use Rattle.type_record.proofs.PlaceLemmas.{slot_place}
use Rattle.type_record.proofs.laws.place_of_slot.Goals as goal

pub returns : goal.returns
returns g c = slot_place
