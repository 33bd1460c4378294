use Rattle.key_closure.proofs.Turns.{not_both}
use Rattle.key_closure.proofs.laws.closure_or_too_large.Goals as goal

pub returns : goal.returns
returns c = not_both
