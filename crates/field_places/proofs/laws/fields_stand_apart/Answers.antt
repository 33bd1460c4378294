use Rattle.field_places.proofs.LawfulOwn.{apart_law}
use Rattle.field_places.proofs.laws.fields_stand_apart.Goals as goal

pub returns : goal.returns
returns c = apart_law c.args._rules.now c.args._begin c.args._offsets.now c.args._shapes.now c.requires.shapes c.requires.free
