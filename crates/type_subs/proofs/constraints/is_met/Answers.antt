use Rattle.std.proofs.lemmas.Result.{IfOk-weaker}
use Rattle.key_closure.proofs.NodeTurns.{keys_below-grown}
use Rattle.type_subs.proofs.PutLemmas.{listed_put}
use Rattle.type_subs.proofs.constraints.is_met.Goals as goal

pub is_listed-requires-clause-keys : goal.is_listed-requires-clause-keys
is_listed-requires-clause-keys c = keys_below-grown c.args.pool.now c.put_in.new.pool c.put_in.ensures.grows c.args.keys.now c.requires.keys

pub returns-clause-is : goal.returns-clause-is
returns-clause-is c =
    IfOk-weaker c.is_listed.result _ _
    (λ met is. listed_put c.args.pool.now c.put_in.new.pool c.put_in.ensures.grows c.args.keys.now c.in_ok-put.put _ met c.requires.keys c.in_ok-put.ensures.spells is)
    c.is_listed.ensures.is
