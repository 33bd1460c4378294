use Rattle.field_places.proofs.LawfulOwn.{covered_law}
use Rattle.field_places.proofs.laws.fields_are_covered.Goals as goal

pub returns : goal.returns
returns c = covered_law c.args._rules.now c.args._begin c.args._offsets.now c.args._shapes.now c.requires
