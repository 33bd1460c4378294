use Rattle.type_names.proofs.Numbered.{noted_more}
use Rattle.type_names.proofs.text_numbers.number_at.Goals as goal

pub returns-clause-noted : goal.returns-clause-noted
returns-clause-noted c =
    noted_more c.args.tables.now c.args.names.now c.number.new.self c.args.index c.text_by.result.now c.in_ok-id.id c.args.noted.now c.insert.new.self
    c.requires.noted c.text_by.ensures c.in_ok-id.ensures.kept c.in_ok-id.ensures.number c.in_ok-insert.ensures.updates.0
