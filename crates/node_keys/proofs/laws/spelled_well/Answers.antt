use Rattle.node_keys.proofs.SpellingLemmas.{is_well}
use Rattle.node_keys.proofs.laws.spelled_well.Goals as goal

pub returns : goal.returns
returns c = is_well c.args._key.now c.requires
