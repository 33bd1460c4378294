use Rattle.type_tree.proofs.GrammarLemmas.{names_one}
use Rattle.type_tree.proofs.laws.one_tree_of_a_text.Goals as goal

pub returns : goal.returns
returns c = λ text. names_one c.args._world.now text c.args._t.now c.args._other.now
