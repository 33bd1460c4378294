use Rattle.slot_chains.proofs.walk.+level_of.Given as goal

abbrev pub decreases-level_of : goal.decreases-level_of
decreases-level_of l = l.room
