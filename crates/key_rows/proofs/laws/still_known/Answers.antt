use Rattle.key_rows.proofs.laws.still_known.Goals as goal

pub returns : goal.returns
returns g c = λ page seen more grown h k known. (known.0, λ all lawful on. known.1 all lawful (λ m has. on m (grown m has)))
