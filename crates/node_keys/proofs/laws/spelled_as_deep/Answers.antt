use Rattle.node_keys.proofs.SpellingLemmas.{as_deep}
use Rattle.node_keys.proofs.laws.spelled_as_deep.Goals as goal

pub returns : goal.returns
returns c = as_deep c.args._key.now c.requires
