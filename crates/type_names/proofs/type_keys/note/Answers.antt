use Rattle.type_names.proofs.FirstKeys.{noted_new}
use Rattle.type_names.proofs.type_keys.note.Goals as goal

pub returns-in_ok-insert : goal.returns-in_ok-insert
returns-in_ok-insert c = λ k.
    noted_new c.args.places.now c.insert.new.self c.args.key c.args.place c.get.result c.is_none.result c.get.ensures.value c.is_none.ensures
    c.if-is_none.true k (c.in_ok-insert.ensures.updates.0 k)
