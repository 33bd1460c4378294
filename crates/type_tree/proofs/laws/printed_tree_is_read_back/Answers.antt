use Rattle.type_tree.proofs.PrintedLemmas.{read_back}
use Rattle.type_tree.proofs.laws.printed_tree_is_read_back.Goals as goal

pub returns : goal.returns
returns c = read_back c.args._world.now c.args._t.now c.args._other.now c.requires.named c.requires.shallow
