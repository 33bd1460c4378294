use Rattle.loader_api.proofs.laws.one_read.Goals as goal

pub returns : goal.returns
returns g c = λ s p f h k of a b.
    let met = g.met.T.Types in
    met.one_handle s p f h k of (met.key_named s p f k of a) (met.key_named s p h k of b)
