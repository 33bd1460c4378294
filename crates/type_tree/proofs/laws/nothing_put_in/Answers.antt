use Rattle.type_tree.proofs.SubstLemmas.{key_kept}
use Rattle.type_tree.proofs.laws.nothing_put_in.Goals as goal

pub returns : goal.returns
returns c = key_kept c.args._key.now
