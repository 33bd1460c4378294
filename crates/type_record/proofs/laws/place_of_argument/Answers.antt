use Rattle.type_record.proofs.PlaceLemmas.{argument_place}
use Rattle.type_record.proofs.laws.place_of_argument.Goals as goal

pub returns : goal.returns
returns g c = argument_place
