use Rattle.type_tree.proofs.FitsLemmas.{key_put_fits}
use Rattle.type_tree.proofs.laws.substituted_fits.Goals as goal

pub returns : goal.returns
returns c = key_put_fits c.args._counts.now c.args._types.now c.args._methods.now c.requires.types c.requires.methods c.args._key.now c.requires.key
