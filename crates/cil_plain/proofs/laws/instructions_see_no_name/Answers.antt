use Rattle.cil_plain.proofs.Natural.{plain-natural}
use Rattle.cil_plain.proofs.laws.instructions_see_no_name.Goals as goal

pub returns : goal.returns
returns g c = plain-natural
