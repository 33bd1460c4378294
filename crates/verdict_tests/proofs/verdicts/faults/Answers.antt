use Rattle.verdict_tests.proofs.verdicts.faults.Goals as goal

pub has_deep_layout-requires-clause-notes : goal.has_deep_layout-requires-clause-notes
has_deep_layout-requires-clause-notes c = c.new-notes.ensures c.args.world.now c.from_tree.new.pool
