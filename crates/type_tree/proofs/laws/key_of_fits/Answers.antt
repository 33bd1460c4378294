use Rattle.std.specs.Option.{option_copied}
use Rattle.type_tree.proofs.FitsLemmas.{key_of_fits}
use Rattle.type_tree.proofs.laws.key_of_fits.Goals as goal

pub returns : goal.returns
returns c = key_of_fits c.args._counts.now (option_copied c.args._context) c.args._sig.now c.requires.context c.requires.sig
