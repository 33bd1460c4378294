use Rattle.field_places.proofs.StandingOwn.{own_stands, own_only}
use Rattle.field_places.proofs.laws.fields_stand_least.Goals as goal

pub returns-clause-answer : goal.returns-clause-answer
returns-clause-answer c = own_stands c.args._rules.now c.args._begin c.args._offsets.now c.args._shapes.now c.requires.shapes c.requires.as_long

pub returns-clause-only : goal.returns-clause-only
returns-clause-only c = own_only c.args._rules.now c.args._begin c.args._offsets.now c.args._shapes.now c.requires.shapes c.requires.as_long
