use Rattle.std.proofs.Common.{ap}
use Rattle.type_pool.specs.Keys.{key_at}
use Rattle.type_pool.proofs.KeyLemmas.{one_key}
use Rattle.type_pool.proofs.keys.same_keys.Goals as goal

pub returns : goal.returns
returns c = let ts = c.args.pool.now in (
  (λ h. ap (key_at ts) (c.same_key_node.ensures.0 h)),
  (λ e. c.same_key_node.ensures.1 (one_key ts c.each_once.ensures c.args.a.now c.args.b.now c.requires.left c.requires.right e)),
)
