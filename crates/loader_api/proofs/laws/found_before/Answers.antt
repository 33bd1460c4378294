use Rattle.loader_api.proofs.LastEvents.{found_of}
use Rattle.loader_api.proofs.laws.found_before.Goals as goal

pub returns : goal.returns
returns g c = λ s p before n context sig found of is.
    let t = g.T.Types in
    found_of (t.opened s) (t.names s p) (t.view s p).front (g.met.T.Types.lawful s p of) before n context sig found is
