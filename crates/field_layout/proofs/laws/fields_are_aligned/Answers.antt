use Rattle.field_layout.proofs.TypeLaws.{type_aligned}
use Rattle.field_layout.proofs.laws.fields_are_aligned.Goals as goal

pub returns : goal.returns
returns c = type_aligned c.args._world.now c.args._t.now
