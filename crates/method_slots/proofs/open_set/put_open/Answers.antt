use Rattle.method_slots.proofs.OpenPuts.{open_put}
use Rattle.method_slots.proofs.open_set.put_open.Goals as goal
use Rattle.method_slots.proofs.open_set.put_open.Goals.{in-Ok, in-Err}

pub returns-clause-ok : goal.returns-clause-ok
returns-clause-ok c = elim c.match-insert_full.branch [
  | in-Ok w ↦ rw w.result-is (let found = w.in-Ok.ensures.stored in
      open_put c.args.opens.now.keys c.insert_full.new.self.keys c.args.method found.0 w.in-Ok.index c.requires.once w.in-Ok.ensures.keys found.1 found.2)
  | in-Err w ↦ rw w.result-is tt
]
