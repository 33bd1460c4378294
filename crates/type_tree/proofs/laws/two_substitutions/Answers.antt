use Rattle.type_tree.proofs.SubstLemmas.{key_composes}
use Rattle.type_tree.proofs.laws.two_substitutions.Goals as goal

pub returns : goal.returns
returns c = key_composes c.args._types.now c.args._methods.now c.args._next_types.now c.args._next_methods.now c.args._key.now
