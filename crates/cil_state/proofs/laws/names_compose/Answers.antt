use Rattle.cil_state.proofs.Renamed as lemma
use Rattle.cil_state.proofs.laws.names_compose.Goals as goal

pub returns : goal.returns
returns g c = lemma.run_twice
