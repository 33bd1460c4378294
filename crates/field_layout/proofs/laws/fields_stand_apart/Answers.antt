use Rattle.field_layout.proofs.TypeLaws.{type_apart}
use Rattle.field_layout.proofs.laws.fields_stand_apart.Goals as goal

pub returns : goal.returns
returns c = type_apart c.args._world.now c.args._t.now
