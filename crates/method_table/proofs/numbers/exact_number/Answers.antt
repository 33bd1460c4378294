use Rattle.key_closure.proofs.NodeTurns.{keys_below-grown}
use Rattle.method_table.proofs.Growing.{keys_stay}
use Rattle.method_table.proofs.numbers.exact_number.Goals as goal

pub returns-in_err-exact-clause-grows : goal.returns-in_err-exact-clause-grows
returns-in_err-exact-clause-grows c = keys_stay c.args.pool.now c.subst.new.pool c.args.keys.now c.subst.ensures.grows c.requires.keys

pub number_of-requires-clause-keys : goal.number_of-requires-clause-keys
number_of-requires-clause-keys c = keys_below-grown c.args.pool.now c.subst.new.pool c.subst.ensures.grows c.args.keys.now c.requires.keys
