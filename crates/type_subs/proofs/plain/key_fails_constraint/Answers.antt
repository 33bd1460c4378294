use Rattle.type_subs.proofs.plain.key_fails_constraint.Goals as goal

pub fails_constraint-requires-clause-noted : goal.fails_constraint-requires-clause-noted
fails_constraint-requires-clause-noted c = c.new-notes.ensures c.args.world.now c.from_key.new.pool
