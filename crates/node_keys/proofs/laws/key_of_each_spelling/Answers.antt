use Rattle.node_keys.proofs.SpellingLemmas.{key_of_each}
use Rattle.node_keys.proofs.laws.key_of_each_spelling.Goals as goal

pub returns : goal.returns
returns c = key_of_each
