use Rattle.field_places.proofs.LawfulOwn.{refs_law}
use Rattle.field_places.proofs.laws.references_stand_apart.Goals as goal

pub returns : goal.returns
returns c = refs_law c.args._rules.now c.args._begin c.args._offsets.now c.args._shapes.now c.requires
