use Rattle.world_build.proofs.RootsUnique.{one_named}
use Rattle.world_build.proofs.root_laws.one_root_of_a_word.Goals as goal

pub returns : goal.returns
returns c = λ word h k. one_named c.args._world.now c.args._form word c.args._root.now c.args._other.now h k
