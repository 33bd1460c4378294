use Rattle.cil_state.proofs.Agreeing as lemma
use Rattle.cil_state.proofs.laws.names_agree.Goals as goal

pub returns : goal.returns
returns g c = lemma.state_agrees
