use Rattle.std.proofs.Common.{ap}
use Rattle.method_slots.specs.Opens.{open_at}
use Rattle.method_slots.proofs.OpenLemmas.{one_open}
use Rattle.method_slots.proofs.opens.same_open.Goals as goal

pub returns : goal.returns
returns c = let ts = c.args.pool.now in (
  (λ h. ap (open_at ts) (c.same_numbers.ensures.0 h)),
  (λ e. c.same_numbers.ensures.1 (one_open ts c.each_once.ensures c.args.a.now c.args.b.now c.requires.left c.requires.right e)),
)
