use Rattle.type_tree.proofs.CanonLemmas.{key_fixed}
use Rattle.type_tree.proofs.laws.canonical_of_canonical.Goals as goal

pub returns : goal.returns
returns c = key_fixed c.args._world.now c.args._key.now
