use Rattle.layout_tests.proofs.layouts.nested.Goals as goal

pub layout_in-requires-clause-known : goal.layout_in-requires-clause-known
layout_in-requires-clause-known c = c.new-notes.ensures c.args.world.now c.deeper.new.pool
