use Rattle.type_tree.proofs.PrintedLemmas.{names_iff}
use Rattle.type_tree.proofs.laws.text_of_a_named_tree.Goals as goal

pub returns : goal.returns
returns c = names_iff c.args._world.now c.args._t.now
