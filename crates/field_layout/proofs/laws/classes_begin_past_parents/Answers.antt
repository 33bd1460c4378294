use Rattle.field_layout.proofs.TypeLaws.{type_behind}
use Rattle.field_layout.proofs.laws.classes_begin_past_parents.Goals as goal

pub returns : goal.returns
returns c = type_behind c.args._world.now c.args._t.now
