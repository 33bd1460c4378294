use Rattle.load_legal.proofs.LatestEvents.{latest_own, latest_others}
use Rattle.load_legal.proofs.laws.latest_of_a_caller.Goals as goal

pub returns : goal.returns
returns c = record { own = latest_own; others = latest_others }
