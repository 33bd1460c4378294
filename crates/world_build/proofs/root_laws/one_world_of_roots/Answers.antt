use Rattle.world_build.proofs.RootsUnique.{one_world}
use Rattle.world_build.proofs.root_laws.one_world_of_roots.Goals as goal

pub returns : goal.returns
returns c = λ words h k. one_world c.args._world.now c.args._form words c.args._made.now c.args._other.now h k
