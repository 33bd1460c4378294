use Rattle.type_tree.proofs.FitsLemmas.{canonical_fits}
use Rattle.type_tree.proofs.laws.canonical_form_fits.Goals as goal

pub returns : goal.returns
returns c = canonical_fits c.args.world.now c.whole.ensures c.args._key.now c.requires
