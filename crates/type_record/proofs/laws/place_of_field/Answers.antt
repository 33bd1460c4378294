use Rattle.type_record.proofs.PlaceLemmas.{field_place}
use Rattle.type_record.proofs.laws.place_of_field.Goals as goal

pub returns : goal.returns
returns g c = field_place
