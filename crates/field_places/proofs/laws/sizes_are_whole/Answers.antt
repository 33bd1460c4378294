use Rattle.field_places.proofs.StandingOwn.{own_whole}
use Rattle.field_places.proofs.laws.sizes_are_whole.Goals as goal

pub returns : goal.returns
returns c = own_whole c.args._rules.now c.args._begin c.args._offsets.now c.args._shapes.now c.requires.shapes c.requires.as_long
