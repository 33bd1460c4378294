use Rattle.field_layout.proofs.TypeLaws.{told}
use Rattle.field_layout.proofs.laws.fields_stand_least.Goals as goal

pub returns : goal.returns
returns c = told c.args._world.now c.args._t.now
