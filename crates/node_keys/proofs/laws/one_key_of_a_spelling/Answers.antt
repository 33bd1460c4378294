use Rattle.node_keys.proofs.SpellingLemmas.{one_key}
use Rattle.node_keys.proofs.laws.one_key_of_a_spelling.Goals as goal

pub returns : goal.returns
returns c = one_key c.args._key.now c.args._other.now c.requires.key c.requires.other c.requires.same
