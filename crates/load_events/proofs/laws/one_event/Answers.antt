use Rattle.load_events.proofs.Words.{same_event}
use Rattle.load_events.proofs.laws.one_event.Goals as goal

pub returns : goal.returns
returns c = same_event
