use Rattle.field_places.proofs.LawfulOwn.{aligned_law}
use Rattle.field_places.proofs.laws.fields_are_aligned.Goals as goal

pub returns : goal.returns
returns c = aligned_law c.args._rules.now c.args._begin c.args._offsets.now c.args._shapes.now c.requires.shapes c.requires.free
