use Rattle.world_build.proofs.RootsUnique.{no_world}
use Rattle.world_build.proofs.root_laws.no_world_of_an_unnamed_word.Goals as goal

pub returns : goal.returns
returns c = λ words word u h. no_world c.args._world.now c.args._form words word c.args._made.now u h
