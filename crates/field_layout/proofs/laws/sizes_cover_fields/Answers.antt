use Rattle.field_layout.proofs.TypeLaws.{type_sized}
use Rattle.field_layout.proofs.laws.sizes_cover_fields.Goals as goal

pub returns : goal.returns
returns c = type_sized c.args._world.now c.args._t.now
