use Rattle.loader_api.proofs.LastEvents.{first_of}
use Rattle.loader_api.proofs.laws.first_exactly.Goals as goal

-- src/laws.rt:17:1
pub returns : goal.returns
returns g c = λ s p before n h first of is.
    let t = g.T.Types in
    first_of (t.opened s) (t.names s p) (t.view s p).front (g.met.T.Types.lawful s p of) before n h first is
