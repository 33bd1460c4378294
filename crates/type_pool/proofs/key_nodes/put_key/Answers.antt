use Rattle.type_pool.proofs.KeySets.{key_put}
use Rattle.type_pool.proofs.key_nodes.put_key.Goals as goal
use Rattle.type_pool.proofs.key_nodes.put_key.Goals.{in-Ok, in-Err}

pub returns-clause-ok : goal.returns-clause-ok
returns-clause-ok c = elim c.match-insert_full.branch [
  | in-Ok w ↦ rw w.result-is (let found = w.in-Ok.ensures.stored in
      key_put c.args.nodes.now.keys c.insert_full.new.self.keys c.args.key found.0 w.in-Ok.index c.requires.once w.in-Ok.ensures.keys found.1 found.2)
  | in-Err w ↦ rw w.result-is tt
]
