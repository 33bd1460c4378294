use Rattle.field_layout.proofs.TypeLaws.{type_long}
use Rattle.field_layout.proofs.laws.fields_have_offsets.Goals as goal

pub returns : goal.returns
returns c = type_long c.args._world.now c.args._t.now
