use Rattle.field_layout.proofs.top.layout.Goals as goal

pub layout_in-requires-clause-known : goal.layout_in-requires-clause-known
layout_in-requires-clause-known c = c.new-notes.ensures c.args.world.now c.from_tree.new.pool
