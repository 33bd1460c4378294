use Rattle.clr_core.proofs.Endings.{answers}
use Rattle.clr_core.proofs.top.clr_quiet.Goals as goal

pub returns : goal.returns
returns g c = answers _ _ _ c.answer.ensures
