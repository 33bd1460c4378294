use Rattle.field_layout.proofs.TypeLaws.{type_refs}
use Rattle.field_layout.proofs.laws.references_stand_apart.Goals as goal

pub returns : goal.returns
returns c = type_refs c.args._world.now c.args._t.now
