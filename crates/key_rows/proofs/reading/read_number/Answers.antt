use Rattle.key_rows.proofs.reading.read_number.Goals as goal

pub returns-clause-number : goal.returns-clause-number
returns-clause-number g c = λ k e names tells. (c.read_entry-entry.ensures.told k e names tells).0
