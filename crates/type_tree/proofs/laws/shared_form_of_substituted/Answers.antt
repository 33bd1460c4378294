use Rattle.type_tree.proofs.SharedLemmas.{shares}
use Rattle.type_tree.proofs.laws.shared_form_of_substituted.Goals as goal

pub returns : goal.returns
returns c = shares c.args._world.now c.args._types.now c.args._methods.now c.args._t.now c.requires
