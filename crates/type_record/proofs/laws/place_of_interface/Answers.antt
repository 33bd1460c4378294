use Rattle.type_record.proofs.PlaceLemmas.{interface_place}
use Rattle.type_record.proofs.laws.place_of_interface.Goals as goal

pub returns : goal.returns
returns g c = interface_place
